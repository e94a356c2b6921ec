use Rattle.std.proofs.Common.{◌≡◌, arith, ap, sym, subst, length, refl}
use Rattle.fission_ids.specs.declared.outcome.Outcome.TheVariants.{Aborted}
use Rattle.queries.specs.Row.{is_of}
use Rattle.queries.specs.Table.{AreNumbered, SettledStay}
use Rattle.queries.proofs.Lists.{overwritten}
use Rattle.queries.proofs.Rows.{numbered_settled, settled_if, stay_settled}
use Rattle.queries.proofs.table.QueryTable.abort_all.Goals as goal

pub invariant_of-self : goal.invariant_of-self
invariant_of-self c =
    let whole : length c.abort_each.new.rows ≡ c.self.inside.rows.len = omega arith in
    let f = settled_if (is_of c.args.w) Aborted in
    subst (AreNumbered c.self.inside.creator 1)
    (sym (overwritten f _ _ c.self.inside.rows.items _ c.abort_each.new.rows _ whole c.abort_each.ensures c.as_mut_slice.ensures.value refl))
    (numbered_settled c.self.inside.creator 1 c.self.inside.rows.items c.self.invariant (is_of c.args.w) Aborted)

pub returns-clause-stay : goal.returns-clause-stay
returns-clause-stay c =
    let whole : length c.abort_each.new.rows ≡ c.self.inside.rows.len = omega arith in
    let f = settled_if (is_of c.args.w) Aborted in
    subst (SettledStay c.args.self.now.rows)
    (sym (overwritten f _ c.args.self.now.rows c.self.inside.rows.items _ c.abort_each.new.rows _ whole c.abort_each.ensures
    c.as_mut_slice.ensures.value (ap (λ t. t.rows) c.self.view_is)))
    (stay_settled (is_of c.args.w) Aborted c.args.self.now.rows)
