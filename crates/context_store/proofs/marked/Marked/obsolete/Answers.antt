use Rattle.std.proofs.Common.{◌≡◌, ◌∙◌, sym, refl, Bool, true, false, ◌&&◌, get_or}
use Rattle.std.specs.Prelude.{nat_lt}
use Rattle.field_table.specs.declared.field.Field.{Field}
use Rattle.field_table.specs.declared.field.Field.TheVariants.{Name}
use Rattle.field_table.specs.Field.{fields}
use Rattle.field_table.specs.FieldSet.{has}
use Rattle.field_table.proofs.FieldSets.{none_of, all_of, some_more_in, some_more_out}
use Rattle.epochs.specs.FieldEpochs.{epoch_of}
use Rattle.context_store.proofs.marked.Marked.obsolete.Goals as goal
use Rattle.context_store.proofs.marked.Marked.obsolete.Goals.{then-has+then-is_newer, else-has, else-has-via-then-has+else-is_newer, else-has-via-else-has}

both_hold : (b r x y : Bool) → r ≡ b → r ≡ true → y ≡ x → y ≡ true → (b && x) ≡ true
both_hold b r x y e p f q = cc

one_fails : (b r x : Bool) → r ≡ b → r ≡ false → (b && x) ≡ false
one_fails true r x e p = absurd (cc)
one_fails false r x e p = refl

other_fails : (b x y : Bool) → y ≡ x → y ≡ false → (b && x) ≡ false
other_fails true x y e p = sym e ∙ p
other_fails false x y e p = refl

pub loop-f-init : goal.loop-f-init
loop-f-init c = none_of (λ f. has c.args.s f && nat_lt c.args.e.0 (epoch_of c.args.self.now f).0)

pub loop-f-preserved : goal.loop-f-preserved
loop-f-preserved c =
    let at : Field = get_or fields c.loop-f.f-index Name in
    let is_in : Bool = has c.args.s at in
    let is_newer : Bool = nat_lt c.args.e.0 (epoch_of c.args.self.now at).0 in
    let p : Field → Bool = λ f. has c.args.s f && nat_lt c.args.e.0 (epoch_of c.args.self.now f).0 in
    elim c.if-has.branch [
      | then-has+then-is_newer w ↦ some_more_in p c.loop-f.f-index Name _ _ c.loop-f-test.true c.loop-f.invariant (both_hold is_in _ is_newer _ c.has.ensures w.if-has.true w.is_newer.ensures w.if-is_newer.true) (w.obsolete-is ∙ w.with-obsolete.ensures.whole)
      | else-has w ↦ some_more_out p c.loop-f.f-index Name _ _ c.loop-f-test.true c.loop-f.invariant
          (elim w.else-has.branch [
            | else-has-via-then-has+else-is_newer v ↦ other_fails is_in is_newer _ v.is_newer.ensures v.if-is_newer.false
            | else-has-via-else-has v ↦ one_fails is_in _ is_newer c.has.ensures v.if-has.false
          ]) w.obsolete-is
    ]

pub returns : goal.returns
returns c = c.loop-f.invariant ∙ all_of (λ f. has c.args.s f && nat_lt c.args.e.0 (epoch_of c.args.self.now f).0) c.loop-f.f-index c.loop-f-test.false
