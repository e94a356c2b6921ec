-- What is asked of the parent. Each question is a function of ids, and says nothing of how it is answered: by
-- the parent's record, or by looking back through a journal.
use Rattle.std.specs.Prelude.{ℕ, ◌==◌, Bool, false, ◌&&◌, List, Option, None, Some}
use Rattle.fission_ids.specs.declared.context.ContextId.{ContextId}
use Rattle.fission_ids.specs.declared.group.GroupId.{GroupId}
use Rattle.fission_ids.specs.declared.process.ProcSet.{ProcSet}
use Rattle.fission_ids.specs.ProcSet.{has}
use Rattle.context_group.specs.declared.acks.Awaited.{Awaited}
use Rattle.field_table.specs.declared.field.Field.{Field}
use Rattle.field_table.specs.declared.value.Value.{Value}
use Rattle.wire_msgs.specs.declared.cause.EndCause.{EndCause}

-- of contexts: what was fixed when one was made, and what holds of it while it is live
pub record Contexts : Type 0 where
  pub known : ContextId → Bool  -- it was made, and may be discarded
  pub group : ContextId → Option GroupId  -- of one that is known
  pub above : ContextId → Option ContextId  -- the context that a known one is a frame of
  pub live : ContextId → Bool  -- it is known, and not discarded
  pub under : ContextId → ContextId → Bool  -- the first is live, and is the second or below it
  pub owner : ContextId → Option ℕ  -- the process that owns a live one
  pub value : ContextId → Field → Option Value  -- of a live one
  pub order : List ContextId  -- the live ones, in pre-order

-- of groups
pub record Groups : Type 0 where
  pub made : ℕ  -- how many were made
  pub kept : GroupId → Bool
  pub subscribers : GroupId → ProcSet
  pub awaited : GroupId → List Awaited  -- the acknowledgements of contexts that processes owe

-- of processes
pub record Processes : Type 0 where
  pub ended : ℕ → Option EndCause
  pub commits_heard : ℕ → ℕ  -- the epoch that is recorded of it
  pub bundles_sent : ℕ → ℕ  -- to it
  pub last_load : ℕ → ContextId → ℕ  -- the number of the bundle with its last Load of the context, or 0

-- all that is asked, but of windows and queries
pub record Facts : Type 0 where
  pub contexts : Contexts
  pub groups : Groups
  pub processes : Processes
  pub tabs_made : ℕ  -- the contexts that the parent made

-- whether there is a value, and it passes a test
abbrev pub option_any : {X : Type 0} → (X → Bool) → Option X → Bool
option_any passes None = false
option_any passes (Some x) = passes x

-- whether a process is subscribed to a group
abbrev pub is_subscribed : Facts → ℕ → GroupId → Bool
is_subscribed f p g = has (f.groups.subscribers g) p

-- whether a process is subscribed to the group of a context that is known
abbrev pub is_told : Facts → ℕ → ContextId → Bool
is_told f p x = option_any (is_subscribed f p) (f.contexts.group x)

-- whether a commit of a process is judged: its context is live, in a group that the process is subscribed to
abbrev pub is_judged : Facts → ℕ → ContextId → Bool
is_judged f p x = f.contexts.live x && is_told f p x

-- whether a process owns a context
abbrev pub is_owner : Facts → ℕ → ContextId → Bool
is_owner f p x = option_any (λ q. q == p) (f.contexts.owner x)
