use Rattle.std.proofs.Common.{◌∙◌, ap, if◌then◌else◌}
use Rattle.fission_ids.specs.declared.epoch.Epoch.{Epoch}
use Rattle.field_table.specs.declared.field.Field.{Field}
use Rattle.field_table.specs.FieldSet.{has}
use Rattle.field_table.proofs.Tables.{at_number}
use Rattle.epochs.specs.FieldEpochs.{Epochs, epoch_of, epochs_after}
use Rattle.epochs.proofs.field_epochs.FieldEpochs.mark.Goals as goal

pub returns-clause-whole : goal.returns-clause-whole
returns-clause-whole c = c.mark_in.ensures ∙ ap (epochs_after c.args.s c.args.e) c.self.view_is

pub returns-clause-epochs : goal.returns-clause-epochs
returns-clause-epochs c f =
    let none : Epoch = record { 0 = 0 } in
    let h : Field → Epoch = λ g. if has c.args.s g then c.args.e else epoch_of c.args.self.now g in
    ap (λ (t : Epochs). epoch_of t f) (c.mark_in.ensures ∙ ap (epochs_after c.args.s c.args.e) c.self.view_is) ∙ at_number h none f
