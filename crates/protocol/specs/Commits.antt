-- What a commit that the parent hears comes to, by the notes of its fields.
use Rattle.std.specs.Prelude.{List}
use Rattle.fission_ids.specs.declared.context.ContextId.{ContextId}
use Rattle.transaction.specs.Transaction.{Changes}
use Rattle.wire_msgs.specs.declared.note.FieldNote.{FieldNote}
use Rattle.wire_msgs.specs.declared.part.DownPart.{DownPart}
use Rattle.protocol.specs.Questions.{Facts}
use Rattle.protocol.specs.Hear.{is_noted, is_applied, is_reverted, changes_where, values_where}
use Rattle.protocol.specs.Hear.{commit_unless_empty}

-- what is applied of it
abbrev pub applied : List FieldNote → Changes → Changes
applied ns t = changes_where (is_noted is_applied ns) t

-- what its sender is sent back
abbrev pub sent_back : List FieldNote → Facts → ContextId → List DownPart
sent_back ns f x = commit_unless_empty x (values_where (is_noted is_reverted ns) f x)
