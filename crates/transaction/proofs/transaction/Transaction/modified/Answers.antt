use Rattle.std.proofs.Common.{◌∙◌, sym, Bool}
use Rattle.std.specs.Prelude.{is_some}
use Rattle.field_table.specs.declared.field.Field.{Field}
use Rattle.field_table.proofs.FieldSets.{none_of, all_of, some_more_in, some_more_out, members_set_of}
use Rattle.transaction.specs.Transaction.{new_value}
use Rattle.transaction.proofs.transaction.Transaction.modified.Goals as goal
use Rattle.transaction.proofs.transaction.Transaction.modified.Goals.{then-is_modified, else-is_modified}

pub loop-f-init : goal.loop-f-init
loop-f-init c = none_of (λ f. is_some (new_value c.args.self.now f))

pub loop-f-preserved : goal.loop-f-preserved
loop-f-preserved c =
    let p : Field → Bool = λ f. is_some (new_value c.args.self.now f) in
    elim c.if-is_modified.branch [
      | then-is_modified w ↦ some_more_in p c.loop-f.f-index _ _ _ c.loop-f-test.true c.loop-f.invariant (sym c.is_modified.ensures ∙ w.if-is_modified.true) (w.modified-is ∙ w.with-modified.ensures.whole)
      | else-is_modified w ↦ some_more_out p c.loop-f.f-index _ _ _ c.loop-f-test.true c.loop-f.invariant (sym c.is_modified.ensures ∙ w.if-is_modified.false) w.modified-is
    ]

pub returns-clause-members : goal.returns-clause-members
returns-clause-members c =
    let p : Field → Bool = λ f. is_some (new_value c.args.self.now f) in
    members_set_of _ p (c.loop-f.invariant ∙ all_of p c.loop-f.f-index c.loop-f-test.false)

pub returns-clause-whole : goal.returns-clause-whole
returns-clause-whole c = c.loop-f.invariant ∙ all_of (λ f. is_some (new_value c.args.self.now f)) c.loop-f.f-index c.loop-f-test.false
