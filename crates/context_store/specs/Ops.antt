-- What a run of operations answers, and what it leaves.
use Rattle.std.specs.Prelude.{List, [], ◌∷◌, if◌then◌else◌}
use Rattle.std.specs.Option.{option_map}
use Rattle.std.specs.FinMap.{get, insert, remove}
use Rattle.field_table.specs.Table.{value_in}
use Rattle.epochs.specs.FieldEpochs.{no_epochs}
use Rattle.context_store.specs.declared.ops.StoreOp.{StoreOp}
use Rattle.context_store.specs.declared.ops.StoreOp.TheVariants.{Get, Add, Remove, Commit, Overlay}
use Rattle.context_store.specs.declared.ops.StoreReply.{StoreReply}
use Rattle.context_store.specs.declared.ops.StoreReply.TheVariants.{Got, Added, Present, Removed}
use Rattle.context_store.specs.declared.ops.StoreReply.TheVariants.{Committed, Overlaid}
use Rattle.context_store.specs.Content.{Content, is_there, content_after_change, obsolete_at}
use Rattle.context_store.specs.Content.{stored_after_commit, stored_after_overlay}

-- the answer of one operation
abbrev pub reply_to : StoreOp → Content → StoreReply
reply_to (Get x f) m = Got (option_map (λ s. value_in s.fields f) (get m x))
reply_to (Add x fields) m = if is_there x m then Present else Added
reply_to (Remove x) m = Removed (is_there x m)
reply_to (Commit x t e) m = Committed (is_there x m)
reply_to (Overlay x t e) m = Overlaid (obsolete_at x t e m)

-- the content after one operation
abbrev pub content_behind : StoreOp → Content → Content
content_behind (Get x f) m = m
content_behind (Add x fields) m = if is_there x m then m else
    insert m x (record { fields = fields; epochs = no_epochs })
content_behind (Remove x) m = remove m x
content_behind (Commit x t e) m = content_after_change (stored_after_commit t e) x m
content_behind (Overlay x t e) m = content_after_change (stored_after_overlay t e) x m

-- the content after the operations
abbrev pub content_after : List StoreOp → Content → Content
content_after [] m = m
content_after (op ∷ ops) m = content_after ops (content_behind op m)

-- the answers of the operations, one after the other
abbrev pub replies : List StoreOp → Content → List StoreReply
replies [] m = []
replies (op ∷ ops) m = reply_to op m ∷ replies ops (content_behind op m)
