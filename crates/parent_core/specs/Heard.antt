-- What the parts of a bundle come to that was judged to be without fault.
use Rattle.std.specs.Prelude.{◌≡◌, ℕ, ◌<◌, Bool, List, [], ◌∷◌, ◌++◌, ⊤}
use Rattle.field_table.specs.declared.field.Field.{Field}
use Rattle.field_rules.specs.Bounds.{Bounds}
use Rattle.transaction.specs.Transaction.{Changes}
use Rattle.wire_msgs.specs.declared.part.UpPart.{UpPart}
use Rattle.wire_msgs.specs.declared.part.UpPart.TheVariants as ups
use Rattle.protocol.specs.Fold.{after_part, after_parts, notes_of, posts_of}
use Rattle.protocol.specs.FactsAfter.{facts_after}
use Rattle.protocol.specs.Hear.{hear_rules, note, posts as posts_of_part}
use Rattle.protocol.specs.Outside.{allowed_in, changes_in}
use Rattle.parent_core.specs.Parent.{Kept, facts_of}
use Rattle.parent_core.specs.Posts.{Posted, sent_to}
use Rattle.parent_core.specs.declared.parts.PartHeard.{PartHeard}
use Rattle.parent_core.specs.declared.hearing.PartsHeard.{PartsHeard}

-- each commit among the parts has these changes
abbrev pub AllCommit : Changes → List UpPart → Type 0
AllCommit u [] = ⊤
AllCommit u (ups.Commit x t ∷ parts) = (t ≡ u) × AllCommit u parts
AllCommit u (_ ∷ parts) = AllCommit u parts

-- ---- one part

-- what the functions of the outside allow of a part
abbrev pub allowed_of_part : Bounds → UpPart → Field → Bool
allowed_of_part b part = allowed_in b (changes_in (part ∷ []))

-- a part of process p is done: the parent that was before, and what was sent before it and behind it
pub record PartDone
    (allows : Field → Bool) (p : ℕ) (part : UpPart)
    (before : Kept) (sent more : List Posted) (heard : PartHeard) : Type 0 where
  pub config : heard.core.config ≡ before.config
  pub facts : facts_of heard.core
      ≡ after_part (hear_rules allows p p) (λ f. f) facts_after part (facts_of before)
  pub note : heard.note ≡ note allows p (facts_of before) part
  pub posts : (q : ℕ) → q < 16
      → sent_to more q ≡ sent_to sent q ++ posts_of_part (facts_of before) p part heard.note q

-- ---- all parts

-- the parts of process p are done, one after the other
pub record PartsDone
    (allows : Field → Bool) (p : ℕ) (parts : List UpPart)
    (before : Kept) (heard : PartsHeard) : Type 0 where
  pub config : heard.core.config ≡ before.config
  pub facts : facts_of heard.core
      ≡ after_parts (hear_rules allows p p) (λ f. f) facts_after (facts_of before) parts
  pub notes : heard.notes.items
      ≡ notes_of (hear_rules allows p p) (λ f. f) facts_after (facts_of before) parts
  pub posts : (q : ℕ) → q < 16 → sent_to heard.posts.items q
      ≡ posts_of (hear_rules allows p q) (λ f. f) facts_after (facts_of before) parts
