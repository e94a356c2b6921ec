use Rattle.std.proofs.Common.{◌≡◌, ◌∙◌, sym, true, false, arith}
use Rattle.context_group.specs.Sets.{has_any}
use Rattle.context_group.proofs.AckLemmas.{add_found, add_missing}
use Rattle.context_group.proofs.acks.Acks.add.Goals as goal

pub returns-then-place-len-clause-ok : goal.returns-then-place-len-clause-ok
returns-then-place-len-clause-ok c =
    add_found c.args.who c.args.x c.args.self.now c.self.inside.entries.items c.as_slice.result.now c.place_of-place.result c.index_mut-entry.result.now c.union-entry.result
    c.as_slice.ensures.value c.self.view_is c.place_of-place.ensures (omega arith) c.index_mut-entry.ensures.value c.union-entry.ensures

pub returns-in_ok-push-clause-ok : goal.returns-in_ok-push-clause-ok
returns-in_ok-push-clause-ok c =
    let some : true ≡ has_any c.args.who = sym c.if-is_any_in.true ∙ c.is_any_in.ensures in
    c.in_ok-push.ensures.items ∙ add_missing c.args.who c.args.x c.args.self.now c.self.inside.entries.items c.as_slice.result.now c.place_of-place.result true
    c.as_slice.ensures.value c.self.view_is c.place_of-place.ensures (omega arith) some

pub returns-else-is_any_in-clause-ok : goal.returns-else-is_any_in-clause-ok
returns-else-is_any_in-clause-ok c =
    let none : false ≡ has_any c.args.who = sym c.if-is_any_in.false ∙ c.is_any_in.ensures in
    sym c.self.view_is ∙ add_missing c.args.who c.args.x c.args.self.now c.self.inside.entries.items c.as_slice.result.now c.place_of-place.result false
    c.as_slice.ensures.value c.self.view_is c.place_of-place.ensures (omega arith) none
