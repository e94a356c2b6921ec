-- What is asked of a process, and what it does. As with the parent, each question is a function of ids.
use Rattle.std.specs.Prelude.{ℕ, Bool, List, Option}
use Rattle.fission_ids.specs.declared.context.ContextId.{ContextId}
use Rattle.fission_ids.specs.declared.group.GroupId.{GroupId}
use Rattle.field_table.specs.declared.field.Field.{Field}
use Rattle.field_table.specs.declared.value.Value.{Value}
use Rattle.transaction.specs.Transaction.{Changes}
use Rattle.wire_msgs.specs.declared.part.Known.{Known}

-- all that is asked, but of windows and queries
pub record Seen : Type 0 where
  pub running : Bool
  pub commits : ℕ  -- its own, so its epoch
  pub taken : ℕ  -- bundles
  pub frames_made : ℕ
  pub holds : ContextId → Bool
  pub group : ContextId → Option GroupId  -- of a context that it holds, as all that follow
  pub above : ContextId → Option ContextId
  pub under : ContextId → ContextId → Bool  -- the first is held, and is the second or below it
  pub owns : ContextId → Bool
  pub value : ContextId → Field → Option Value
  pub newest : ContextId → Field → ℕ  -- the number of its newest write to the field, or 0
  pub order : List ContextId  -- in pre-order

-- what a step or a part came to, in the process
pub data Doing : Type 0 where
  -- it was told of a context, which it holds from then on, unless it holds it already, made it, or doesn't
  -- hold the context that it's in
  Came : (known : Known) → Doing
  -- it made a frame
  Framed : (x : ContextId) (above : ContextId) → Doing
  -- a context is gone with all below it
  Went : (x : ContextId) → Doing
  -- it wrote fields
  Wrote : (x : ContextId) (t : Changes) → Doing
  -- fields got the values that the parent gave
  Given : (x : ContextId) (t : Changes) → Doing
  -- it no longer owns a context
  Disowned : (x : ContextId) → Doing
  -- it took a bundle
  Took : Doing
  -- it stopped
  Stopped : Doing
