use Rattle.std.proofs.Common.{sym, ◌∙◌, eq-eqb, eqb-true, false, None}
use Rattle.std.proofs.lemmas.Bool.{false≢true}
use Rattle.parent_core.specs.Writes.{is_denied_from}
use Rattle.parent_core.proofs.Denials.{none_refused_by, some_refused_by}
use Rattle.parent_core.proofs.writes.denial.Goals as goal

pub returns-then-eq : goal.returns-then-eq
returns-then-eq c =
    none_refused_by (is_denied_from None c.args.x c.args.top false c.args.t.now) c.args.t.now c.denied_fields-denied.result c.denied_fields-denied.ensures
    (eqb-true c.denied_fields-denied.result.0 0 (sym c.eq.ensures ∙ c.if-eq.true))

pub returns-else-eq : goal.returns-else-eq
returns-else-eq c =
    some_refused_by (is_denied_from None c.args.x c.args.top false c.args.t.now) c.args.t.now c.denied_fields-denied.result c.denied_fields-denied.ensures
    (λ e. false≢true (sym c.if-eq.false ∙ c.eq.ensures ∙ eq-eqb c.denied_fields-denied.result.0 0 e))
