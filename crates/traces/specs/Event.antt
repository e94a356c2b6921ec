-- What one process sees of a journal: a list of events, the newest first.
use Rattle.std.specs.Prelude.{ℕ}

-- a bundle on its way from the parent to the process
pub record Bundle (B : Type 0) : Type 0 where
  pub entry : ℕ  -- the entry that sent it
  pub epoch : ℕ  -- how many own writes the parent had heard after that entry
  pub content : B

-- W is what a write holds, B is what a bundle holds
pub data Event (W B : Type 0) : Type 0 where
  -- the process writes; the write counts, whatever fields it is for
  Writes : (write : W) → Event W B
  -- the parent accepts a change in this entry, or none, and sends the process a bundle
  Sends : (entry : ℕ) (change : W) (content : B) → Event W B
  -- the process takes the bundle that waited first
  Takes : (bundle : Bundle B) → Event W B
  -- the parent hears the write that waited first, and accepts it
  Accepts : (entry : ℕ) (write : W) → Event W B
  -- the parent hears the write that waited first, and sends back what the process is to show in its place
  Reverts : (entry : ℕ) (write : W) (content : B) → Event W B
  -- the parent hears the write that waited first, and does nothing with it
  Ignores : (entry : ℕ) (write : W) → Event W B
  -- the parent accepts a change of another's, and sends this process nothing
  Changes : (entry : ℕ) (change : W) → Event W B
  -- the process does at once, by itself, what a bundle with this content would have it do
  Does : (own : B) → Event W B
  -- the parent ends the process
  Ends : Event W B
  -- nothing of this process
  Rests : Event W B
