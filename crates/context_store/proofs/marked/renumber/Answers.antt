use Rattle.std.proofs.Common.{◌≡◌, ◌∙◌, refl, ℕ, Bool, true, false, if◌then◌else◌}
use Rattle.std.specs.Prelude.{slice_index}
use Rattle.field_table.specs.declared.field.Field.{Field}
use Rattle.field_table.specs.Field.{number}
use Rattle.field_table.specs.FieldSet.{has}
use Rattle.field_table.proofs.Filling.{filled_more, filled_same, filled_all}
use Rattle.context_store.proofs.marked.renumber.Goals as goal
use Rattle.context_store.proofs.marked.renumber.Goals.{then-has, else-has}

in_set : (b r : Bool) (n old : ℕ) → r ≡ b → r ≡ true → n ≡ (if b then n else old)
in_set true r n old same test = refl
in_set false r n old same test = absurd (cc)

not_in_set : (b r : Bool) (n old : ℕ) → r ≡ b → r ≡ false → (if b then n else old) ≡ old
not_in_set true r n old same test = absurd (cc)
not_in_set false r n old same test = refl

pub loop-f-preserved : goal.loop-f-preserved
loop-f-preserved c =
    let old = c.args.numbers.now in
    let h : Field → ℕ = λ f. if has c.args.s f then c.args.n else slice_index c.args.numbers.now (number f) in
    elim c.if-has.branch [
      | then-has w ↦ filled_more h c.loop-f.f-index _ 0 old c.loop-f-test.true c.requires _ _ _ _ c.loop-f.invariant w.numbers-is w.number.ensures (in_set _ _ _ _ c.has.ensures w.if-has.true)
      | else-has w ↦ filled_same h c.loop-f.f-index _ 0 old c.loop-f-test.true c.requires _ _ c.loop-f.invariant (not_in_set _ _ _ _ c.has.ensures w.if-has.false) w.numbers-is
    ]

pub returns : goal.returns
returns c =
    let h : Field → ℕ = λ f. if has c.args.s f then c.args.n else slice_index c.args.numbers.now (number f) in
    c.loop-f.invariant ∙ filled_all h c.loop-f.f-index c.args.numbers.now c.loop-f-test.false c.requires
