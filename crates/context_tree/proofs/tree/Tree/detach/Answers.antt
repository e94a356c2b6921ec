use Rattle.std.proofs.Common.{◌≡◌, ◌∙◌, ap, sym}
use Rattle.std.specs.Prelude.{Some, None, if◌then◌else◌}
use Rattle.context_tree.specs.Tree.{without, contexts, subtree}
use Rattle.context_tree.specs.Places.{Keeps}
use Rattle.context_tree.proofs.Kept.{kept, keeps, seen}
use Rattle.context_tree.proofs.Spans.{keeps_without}
use Rattle.context_tree.proofs.tree.Tree.detach.Goals as goal

gone : (c : goal.After-cut) → c.in_ok-gone.gone.items ≡ contexts (subtree c.args.id c.args.self.now)
gone c = c.in_ok-gone.ensures ∙ ap contexts c.in-Some.ensures.inside

after : (c : goal.After-cut) → Keeps (without c.args.id c.args.self.now) c.cut.new.ids.items c.cut.new.depths.items c.forget.new.places.entries
after c =
    keeps_without c.args.self.now c.self.inside.ids.items c.self.inside.depths.items c.self.inside.places.entries
    (kept c.args.self.now c.self.inside.ids.items c.self.inside.depths.items c.self.inside.places.entries c.self.invariant c.self.view_is)
    c.args.id c.in-Some.run' c.in-Some.ensures c.as_slice.result.now (c.as_slice.ensures.value ∙ gone c)
    c.cut.new.ids.items c.cut.new.depths.items c.forget.new.places.entries c.cut.ensures.ids c.cut.ensures.depths c.forget.ensures

pub invariant_of-self : goal.invariant_of-self
invariant_of-self c =
    keeps (without c.args.id c.args.self.now) c.cut.new.ids.items c.cut.new.depths.items c.forget.new.places.entries (after c)

pub returns-clause-ok : goal.returns-clause-ok
returns-clause-ok c =
    let k = after c in (
      ap Some (gone c) ∙ sym (ap (λ b. if b then Some (contexts (subtree c.args.id c.args.self.now)) else None) c.in-Some.ensures.held),
      seen (without c.args.id c.args.self.now) c.cut.new.ids.items c.cut.new.depths.items k.ids_tied k.depths_tied k.tree,
    )
