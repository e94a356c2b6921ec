use Rattle.std.proofs.Common.{◌≡◌, ◌+◌, length, ap, ◌∙◌, arith}
use Rattle.std.specs.FinMap.{get, insert, get-empty}
use Rattle.field_table.specs.Table.{Table, initial_table}
use Rattle.epochs.specs.FieldEpochs.{no_epochs}
use Rattle.context_store.specs.Content.{Content, Stored, context_order}
use Rattle.protocol.specs.Start.{some_if}
use Rattle.parent_core.proofs.Committed.{is_among, none_started, started_next, among_live}
use Rattle.parent_core.proofs.starting.contexts_of.Goals as goal

abbrev first_stored : Stored
first_stored = record { fields = initial_table; epochs = no_epochs }

pub loop-n-init : goal.loop-n-init
loop-n-init c = none_started first_stored c.new-contexts.result (λ x. ap (λ (m : Content). get m x) c.new-contexts.ensures ∙ get-empty context_order x)

pub loop-n-preserved : goal.loop-n-preserved
loop-n-preserved c =
    started_next first_stored c.loop-n.n c.loop-n.contexts c.add.new.self c.loop-n.invariant
    (c.in_ok-add.ensures.ok ∙ ap (λ (fs : Table). insert c.loop-n.contexts (record { creator = 0; serial = c.loop-n.n + 1 }) (record { fields = fs; epochs = no_epochs })) c.initial.ensures)

pub returns : goal.returns
returns c = λ x.
    let all : c.loop-n.n ≡ length c.args.tabs.now = omega arith in
    c.loop-n.invariant x ∙ ap (λ b. some_if b first_stored) (ap (λ n. is_among n x) all ∙ among_live c.args.tabs.now x)
