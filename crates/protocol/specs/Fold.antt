-- The parts of a bundle, one after the other, each judged behind what the earlier ones did. It is told over
-- anything that is kept, by what is asked of it and by what a saying makes of it: the parent's record, the
-- list of sayings that is looked back through, and the answers themselves are each an instance.
use Rattle.std.specs.Prelude.{ℕ, ◌+◌, List, [], ◌∷◌, ◌++◌, Option, None, Some}

-- the first of two, where there is one
abbrev pub or_later : {X : Type 0} → Option X → Option X → Option X
or_later None later = later
or_later (Some x) later = Some x

-- the rules of a part: why it ends its sender, what becomes of it, what that comes to, and what is sent
pub record Rules (Facts Part Note Saying Cause Out : Type 0) : Type 0 where
  pub fault : ℕ → Facts → Part → Option Cause  -- of the part with this number in its bundle, from 1 on
  pub note : Facts → Part → Note
  pub says : Part → Note → List Saying
  pub posts : Facts → Part → Note → List Out

-- what is kept behind sayings, the first one first
unfoldable pub behind_all : {Saying Kept : Type 0} → (Saying → Kept → Kept) → List Saying → Kept → Kept
behind_all next [] s = s
behind_all next (y ∷ ys) s = behind_all next ys (next y s)

module _
    {Facts Part Note Saying Cause Out Kept : Type 0}
    (rules : Rules Facts Part Note Saying Cause Out)
    (facts : Kept → Facts)
    (next : Saying → Kept → Kept)
  where
    -- what is kept after a part
    abbrev pub after_part : Part → Kept → Kept
    after_part a s = behind_all next (rules.says a (rules.note (facts s) a)) s

    -- what is kept after the parts
    unfoldable pub after_parts : Kept → List Part → Kept
    after_parts s [] = s
    after_parts s (a ∷ parts) = after_parts (after_part a s) parts

    -- the fault of the first part that has one
    unfoldable pub first_fault : ℕ → Kept → List Part → Option Cause
    first_fault n s [] = None
    first_fault n s (a ∷ parts) =
        or_later (rules.fault n (facts s) a) (first_fault (n + 1) (after_part a s) parts)

    -- what becomes of each part
    unfoldable pub notes_of : Kept → List Part → List Note
    notes_of s [] = []
    notes_of s (a ∷ parts) = rules.note (facts s) a ∷ notes_of (after_part a s) parts

    -- what all parts send
    unfoldable pub posts_of : Kept → List Part → List Out
    posts_of s [] = []
    posts_of s (a ∷ parts) =
        rules.posts (facts s) a (rules.note (facts s) a) ++ posts_of (after_part a s) parts
