-- How the contexts of a group are found in the bundles of one process: what a bundle does to a context, and
-- which context is above it. X is a context, W a bundle of the process, B one of the parent.
use Rattle.std.specs.Prelude.{Bool, true, false, Option, List}
use Rattle.traces.specs.Words.{Stage}
use Rattle.traces.specs.Words.Stage.{Coming, Held, Gone}

-- what a bundle does to a context, all its parts together: what goes isn't brought back by an earlier part
pub data Effect : Type 0 where
  Stays : Effect
  Comes : Effect
  Goes : Effect

-- the stage after it: what is gone never comes back
abbrev pub moved : Effect → Stage → Stage
moved Stays s = s
moved Comes Coming = Held
moved Comes s = s
moved Goes s = Gone

-- what a change does to who owns a context: nothing, or this process or another, or nobody, owns it now
pub data Handing : Type 0 where
  Same : Handing
  Given : Handing
  Taken : Handing

abbrev pub owned_behind : Handing → Bool → Bool
owned_behind Same owned = owned
owned_behind Given owned = true
owned_behind Taken owned = false

pub record Look (X W B : Type 0) : Type 0 where
  pub does : X → W → Effect  -- what a bundle of the process, or another's change, does to a context
  pub tells : X → B → Effect  -- what a bundle of the parent does to it in the process
  pub above : X → Option X  -- the context that it is made below, if any; the same in the whole journal
  pub is_own : X → Bool  -- made by the process itself, if at all
  pub makes : X → W → List X  -- the contexts that a bundle of the process, or a change, makes below this one
  pub brings : X → B → List X  -- the contexts below this one that a bundle of the parent brings, in order
  pub hands : X → W → Handing  -- what a bundle of the process, or a change, does to who owns this one
  pub handed : X → B → Handing  -- what a bundle of the parent tells of that
  pub creates : X → W → Bool  -- a bundle of the process, or a change, names it as made, late or not
  pub needs : X → W → Bool  -- a bundle of the process names it as one that is known
  pub drops : X → W → Bool  -- a bundle of the process drops it
  pub registers : X → B → Bool  -- from the bundle on the process is told of the group that this one is in

-- how a run begins
pub record Begin (X : Type 0) : Type 0 where
  pub is_told : X → Bool  -- the process is told of the group of a context
  pub stage : X → Stage  -- of a context in the process
  pub life : X → Stage  -- of a context in the parent
  pub owned : X → Bool  -- by the process, on both sides
