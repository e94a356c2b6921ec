use Rattle.std.proofs.Common.{◌≡◌, ◌∙◌, refl, Bool, true, false, if◌then◌else◌}
use Rattle.fission_ids.specs.declared.epoch.Epoch.{Epoch}
use Rattle.field_table.specs.declared.field.Field.{Field}
use Rattle.field_table.specs.FieldSet.{has}
use Rattle.field_table.proofs.Filling.{filled_more, filled_same, filled_all}
use Rattle.epochs.specs.FieldEpochs.{epoch_of}
use Rattle.epochs.proofs.field_epochs.mark_in.Goals as goal
use Rattle.epochs.proofs.field_epochs.mark_in.Goals.{then-has, else-has}

in_set : (b r : Bool) (e old : Epoch) → r ≡ b → r ≡ true → e ≡ (if b then e else old)
in_set true r e old same test = refl
in_set false r e old same test = absurd (cc)

not_in_set : (b r : Bool) (e old : Epoch) → r ≡ b → r ≡ false → (if b then e else old) ≡ old
not_in_set true r e old same test = absurd (cc)
not_in_set false r e old same test = refl

pub loop-f-preserved : goal.loop-f-preserved
loop-f-preserved c =
    let none : Epoch = record { 0 = 0 } in
    let h : Field → Epoch = λ f. if has c.args.s f then c.args.e else epoch_of c.args.epochs.now f in
    elim c.if-has.branch [
      | then-has w ↦ filled_more h c.loop-f.f-index _ none c.args.epochs.now c.loop-f-test.true c.requires _ _ _ _ c.loop-f.invariant w.epochs-is w.number.ensures (in_set _ _ _ _ c.has.ensures w.if-has.true)
      | else-has w ↦ filled_same h c.loop-f.f-index _ none c.args.epochs.now c.loop-f-test.true c.requires _ _ c.loop-f.invariant (not_in_set _ _ _ _ c.has.ensures w.if-has.false) w.epochs-is
    ]

pub returns : goal.returns
returns c =
    let h : Field → Epoch = λ f. if has c.args.s f then c.args.e else epoch_of c.args.epochs.now f in
    c.loop-f.invariant ∙ filled_all h c.loop-f.f-index c.args.epochs.now c.loop-f-test.false c.requires
