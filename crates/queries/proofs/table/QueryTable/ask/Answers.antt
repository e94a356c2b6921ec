use Rattle.std.proofs.Common.{◌≡◌, ◌+◌, ◌∙◌, [], ◌∷◌, ◌++◌, arith, ap, sym, subst, length}
use Rattle.std.specs.Prelude.{None}
use Rattle.queries.specs.declared.row.QState.TheVariants.{Pending}
use Rattle.queries.specs.declared.row.QueryRow.{QueryRow}
use Rattle.queries.specs.Table.{AreNumbered, SettledStay, state_in}
use Rattle.queries.proofs.Rows.{none_numbered, none_state, numbered_more, stay_asked}
use Rattle.queries.proofs.table.QueryTable.ask.Goals as goal

pub invariant_of-self-2 : goal.invariant_of-self-2
invariant_of-self-2 c =
    let t = c.args.self.now in
    let row : QueryRow = record { query = c.next-query.result; window = c.args.w; actor = c.args.actor; state = Pending } in
    let number : length t.rows + 1 ≡ 1 + length t.rows = omega arith in
    let after : AreNumbered t.creator 1 (t.rows ++ row ∷ []) =
    numbered_more t.creator 1 t.rows (subst (λ t. AreNumbered t.creator 1 t.rows) c.self.view_is c.self.invariant) row
    (c.next-query.ensures ∙ (λ j. record { creator = t.creator; serial = number j })) in
    subst (AreNumbered c.self.inside.creator 1) (sym c.in_ok-push.ensures.items)
    (subst (λ t. AreNumbered t.creator 1 (t.rows ++ row ∷ [])) (sym c.self.view_is) after)

pub returns-clause-fresh : goal.returns-clause-fresh
returns-clause-fresh c =
    let t = c.args.self.now in
    subst (λ q. state_in q t.rows ≡ None) (sym c.next-query.ensures)
    (none_state _ t.rows
    (none_numbered t.creator 1 t.rows (subst (λ t. AreNumbered t.creator 1 t.rows) c.self.view_is c.self.invariant) _
    (λ k low high u v. omega (arith, high, v))))

pub returns-clause-stay : goal.returns-clause-stay
returns-clause-stay c =
    let row : QueryRow = record { query = c.next-query.result; window = c.args.w; actor = c.args.actor; state = Pending } in
    subst (SettledStay c.args.self.now.rows) (sym (c.in_ok-push.ensures.items ∙ ap (λ t. t.rows ++ row ∷ []) c.self.view_is))
    (stay_asked row c.args.self.now.rows)
