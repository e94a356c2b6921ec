use Rattle.std.proofs.Common.{sym, ◌∙◌, eq-eqb, eqb-true, Some}
use Rattle.std.proofs.lemmas.Bool.{false≢true}
use Rattle.parent_core.specs.Writes.{is_denied_from}
use Rattle.parent_core.proofs.Denials.{none_ended_by, some_ended_by}
use Rattle.parent_core.proofs.writes.denial_heard.Goals as goal

pub returns-then-eq : goal.returns-then-eq
returns-then-eq c =
    none_ended_by (is_denied_from (Some c.args.p) c.args.x c.args.top c.args.owns c.args.t.now) c.args.t.now c.denied_fields-fields.result c.denied_fields-fields.ensures c.args.x
    (eqb-true c.denied_fields-fields.result.0 0 (sym c.eq.ensures ∙ c.if-eq.true))

pub returns-else-eq : goal.returns-else-eq
returns-else-eq c =
    some_ended_by (is_denied_from (Some c.args.p) c.args.x c.args.top c.args.owns c.args.t.now) c.args.t.now c.denied_fields-fields.result c.denied_fields-fields.ensures c.args.x
    (λ e. false≢true (sym c.if-eq.false ∙ c.eq.ensures ∙ eq-eqb c.denied_fields-fields.result.0 0 e))
