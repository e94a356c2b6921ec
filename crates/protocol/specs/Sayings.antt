-- What a part or an action came to, in the parent. A journal is looked back through as a list of these.
use Rattle.std.specs.Prelude.{ℕ, Bool, Option}
use Rattle.fission_ids.specs.declared.context.ContextId.{ContextId}
use Rattle.fission_ids.specs.declared.group.GroupId.{GroupId}
use Rattle.transaction.specs.Transaction.{Changes}
use Rattle.wire_msgs.specs.declared.cause.EndCause.{EndCause}

pub data Saying : Type 0 where
  -- a process owns a top-level context that was made in a group, which is new or was there
  Opened : (x : ContextId) (g : GroupId) (is_new : Bool) (owner : ℕ) → Saying
  -- a process made a frame, which it owns
  Made : (p : ℕ) (x : ContextId) (above : ContextId) → Saying
  -- a process made a frame too late
  BornDead : (p : ℕ) (x : ContextId) (above : ContextId) → Saying
  -- a context is gone with all below it, and every subscriber but one was told, or every one
  Removed : (x : ContextId) (but : Option ℕ) → Saying
  -- fields of a context have new values
  Wrote : (x : ContextId) (t : Changes) → Saying
  -- a process acknowledged the discard of a context
  Acked : (p : ℕ) (x : ContextId) → Saying
  -- a process was subscribed to a group
  Subscribed : (p : ℕ) (g : GroupId) → Saying
  -- a bundle with a commit was heard of a process
  Counted : (p : ℕ) → Saying
  -- a bundle was sent to a process
  Sent : (p : ℕ) → Saying
  -- a process was ended
  Ended : (p : ℕ) (cause : EndCause) → Saying
