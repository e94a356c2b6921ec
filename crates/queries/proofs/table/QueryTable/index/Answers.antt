use Rattle.std.proofs.Common.{◌≡◌, ◌≤◌, arith, sym, subst}
use Rattle.std.specs.Prelude.{None, MatchOption}
use Rattle.queries.specs.Table.{state_in}
use Rattle.queries.proofs.Rows.{IsAt, none_numbered, none_state}
use Rattle.queries.proofs.table.QueryTable.index.Goals as goal

pub returns-then-q-self : goal.returns-then-q-self
returns-then-q-self c =
    subst (λ t. state_in c.args.q t.rows ≡ None) c.self.view_is
    (none_state c.args.q c.self.inside.rows.items
    (none_numbered c.self.inside.creator 1 c.self.inside.rows.items c.self.invariant c.args.q (λ k low high u v. c.if-q-self.true u)))

pub returns-in_err-index : goal.returns-in_err-index
returns-in_err-index c =
    subst (λ r. MatchOption r (state_in c.args.q c.args.self.now.rows ≡ None) (IsAt c.args.self.now c.args.q)) (sym c.from_residual.ensures)
    (subst (λ t. state_in c.args.q t.rows ≡ None) c.self.view_is
    (none_state c.args.q c.self.inside.rows.items
    (none_numbered c.self.inside.creator 1 c.self.inside.rows.items c.self.invariant c.args.q
    (λ k low high u v. c.in_err-index.ensures (subst (λ n. 1 ≤ n) (sym v) low)))))

pub returns-else-index-len : goal.returns-else-index-len
returns-else-index-len c =
    subst (λ t. state_in c.args.q t.rows ≡ None) c.self.view_is
    (none_state c.args.q c.self.inside.rows.items
    (none_numbered c.self.inside.creator 1 c.self.inside.rows.items c.self.invariant c.args.q
    (λ k low high u v. omega (arith, high, v, c.in_ok-index.ensures.0, c.in_ok-index.ensures.1, c.if-index-len.false, c.len.ensures, c.self.inside.rows.ok.0))))
