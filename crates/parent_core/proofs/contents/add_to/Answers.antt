use Rattle.std.proofs.Common.{Some, cond, sym, ap, ◌∙◌}
use Rattle.std.specs.FinMap.{get, insert, get-insert}
use Rattle.field_table.specs.Table.{Table, initial_table}
use Rattle.epochs.specs.FieldEpochs.{no_epochs}
use Rattle.context_store.specs.Content.{Content, Stored}
use Rattle.context_store.proofs.Contexts.{context_order_total, same_context-tied}
use Rattle.parent_core.proofs.contents.add_to.Goals as goal

pub returns : goal.returns
returns c = λ y.
    let first : Stored = record { fields = initial_table; epochs = no_epochs } in
    ap (λ (m : Content). get m y) (c.in_ok-add.ensures.ok ∙ ap (λ (fs : Table). insert c.args.contexts.now c.args.x (record { fields = fs; epochs = no_epochs })) c.initial.ensures)
    ∙ get-insert context_order_total c.args.contexts.now c.args.x first y
    ∙ ap (λ b. cond b (Some first) (get c.args.contexts.now y)) (sym (same_context-tied y c.args.x))
