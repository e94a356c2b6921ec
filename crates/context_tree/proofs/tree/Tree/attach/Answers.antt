use Rattle.std.proofs.Common.{◌≤◌, ◌∙◌, ap, sym, subst, length}
use Rattle.std.proofs.lemmas.List.{length-map}
use Rattle.context_tree.specs.Tree.{nodes_after}
use Rattle.context_tree.specs.Places.{depth_of}
use Rattle.context_tree.proofs.Kept.{kept, keeps, seen}
use Rattle.context_tree.proofs.Spans.{place_within, keeps_attached}
use Rattle.context_tree.proofs.tree.Tree.attach.Goals as goal

pub put-requires-clause-within_ids : goal.put-requires-clause-within_ids
put-requires-clause-within_ids c =
    let k = kept c.args.self.now c.self.inside.ids.items c.self.inside.depths.items c.self.inside.places.entries c.self.invariant c.self.view_is in
    subst (λ n. c.in-Some.at ≤ n) (sym (ap length k.ids_tied ∙ length-map c.args.self.now (λ n. n.context)))
    (subst (λ n. n ≤ length c.args.self.now) (sym c.in-Some.ensures.1)
    (place_within c.args.parent c.args.id c.args.self.now k.tree c.in-Some.ensures.0))

pub put-requires-clause-within_depths : goal.put-requires-clause-within_depths
put-requires-clause-within_depths c =
    let k = kept c.args.self.now c.self.inside.ids.items c.self.inside.depths.items c.self.inside.places.entries c.self.invariant c.self.view_is in
    subst (λ n. c.in-Some.at ≤ n) (sym (ap length k.depths_tied ∙ length-map c.args.self.now depth_of))
    (subst (λ n. n ≤ length c.args.self.now) (sym c.in-Some.ensures.1)
    (place_within c.args.parent c.args.id c.args.self.now k.tree c.in-Some.ensures.0))

pub invariant_of-self-2 : goal.invariant_of-self-2
invariant_of-self-2 c =
    let k = kept c.args.self.now c.self.inside.ids.items c.self.inside.depths.items c.self.inside.places.entries c.self.invariant c.self.view_is in
    keeps (nodes_after c.args.parent c.args.id c.args.self.now) c.put.new.ids.items c.put.new.depths.items c.put.new.places.entries
    (keeps_attached c.args.self.now c.self.inside.ids.items c.self.inside.depths.items c.self.inside.places.entries k
    c.args.parent c.args.id c.in-Some.at c.in-Some.depth (sym c.holds.ensures ∙ c.if-holds.false) c.in-Some.ensures.0
    c.in-Some.ensures.1 c.in-Some.ensures.2 c.put.new.ids.items c.put.new.depths.items c.put.new.places.entries
    c.in_ok-put.ensures.ids c.in_ok-put.ensures.depths c.in_ok-put.ensures.places)

pub returns-clause-ok : goal.returns-clause-ok
returns-clause-ok c =
    let k = kept c.args.self.now c.self.inside.ids.items c.self.inside.depths.items c.self.inside.places.entries c.self.invariant c.self.view_is in
    let after = keeps_attached c.args.self.now c.self.inside.ids.items c.self.inside.depths.items c.self.inside.places.entries k
    c.args.parent c.args.id c.in-Some.at c.in-Some.depth (sym c.holds.ensures ∙ c.if-holds.false) c.in-Some.ensures.0
    c.in-Some.ensures.1 c.in-Some.ensures.2 c.put.new.ids.items c.put.new.depths.items c.put.new.places.entries
    c.in_ok-put.ensures.ids c.in_ok-put.ensures.depths c.in_ok-put.ensures.places in
    seen (nodes_after c.args.parent c.args.id c.args.self.now) c.put.new.ids.items c.put.new.depths.items
    after.ids_tied after.depths_tied after.tree
