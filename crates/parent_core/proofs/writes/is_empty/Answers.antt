use Rattle.std.proofs.Common.{ℕ, sym, ap, ◌∙◌, eq-eqb, eqb-true}
use Rattle.field_table.specs.declared.field_set.FieldSet.{FieldSet}
use Rattle.parent_core.proofs.Denials.{empty_by}
use Rattle.parent_core.proofs.writes.is_empty.Goals as goal

pub returns : goal.returns
returns c =
    let made : ℕ → FieldSet = λ n. record { 0 = n } in
    empty_by c.eq.result c.args.t.now c.covers_each_field.ensures
    (λ e. sym c.modified.ensures.whole ∙ ap made (eqb-true c.modified.result.0 0 (sym c.eq.ensures ∙ e)))
    (λ e. c.eq.ensures ∙ eq-eqb c.modified.result.0 0 (ap (λ (s : FieldSet). s.0) (c.modified.ensures.whole ∙ e)))
