-- The fold over what is kept is the fold over the answers, if what a saying makes of what is kept is what it
-- does to the answers.
use Rattle.std.proofs.Common.{◌≡◌, ℕ, ◌+◌, List, [], ◌∷◌, ◌++◌, Option, refl, ap, ap₂, sym, subst, ◌∙◌}
use Rattle.protocol.specs.Fold.{Rules, or_later, behind_all, after_part, after_parts, first_fault, notes_of, posts_of}

-- what sayings make of what is kept is what they do to the answers, one after the other
pub all_behind : {F Say Kept : Type 0} (facts : Kept → F) (next : Say → Kept → Kept) (told : Say → F → F) → ((y : Say) (s : Kept) → facts (next y s) ≡ told y (facts s))
    → (ys : List Say) (s : Kept) → facts (behind_all next ys s) ≡ behind_all told ys (facts s)
unfolding behind_all
all_behind facts next told reads [] s = refl
all_behind facts next told reads (y ∷ ys) s = all_behind facts next told reads ys (next y s) ∙ ap (behind_all told ys) (reads y s)

module _
    {F Part Note Say Cause Out Kept : Type 0}
    (rules : Rules F Part Note Say Cause Out)
    (facts : Kept → F)
    (next : Say → Kept → Kept)
    (told : Say → F → F)
    (reads : (y : Say) (s : Kept) → facts (next y s) ≡ told y (facts s))
  where
    pub part_same : (a : Part) (s : Kept) → facts (after_part rules facts next a s) ≡ after_part rules (λ f. f) told a (facts s)
    part_same a s = all_behind facts next told reads (rules.says a (rules.note (facts s) a)) s

    pub parts_same : (parts : List Part) (s : Kept) → facts (after_parts rules facts next s parts) ≡ after_parts rules (λ f. f) told (facts s) parts
    unfolding after_parts
    parts_same [] s = refl
    parts_same (a ∷ parts) s = parts_same parts (after_part rules facts next a s) ∙ ap (λ f. after_parts rules (λ f. f) told f parts) (part_same a s)

    pub fault_same : (n : ℕ) (parts : List Part) (s : Kept) → first_fault rules facts next n s parts ≡ first_fault rules (λ f. f) told n (facts s) parts
    unfolding first_fault
    fault_same n [] s = refl
    fault_same n (a ∷ parts) s =
        ap (or_later (rules.fault n (facts s) a)) (fault_same (n + 1) parts (after_part rules facts next a s) ∙ ap (λ f. first_fault rules (λ f. f) told (n + 1) f parts) (part_same a s))

    pub notes_same : (parts : List Part) (s : Kept) → notes_of rules facts next s parts ≡ notes_of rules (λ f. f) told (facts s) parts
    unfolding notes_of
    notes_same [] s = refl
    notes_same (a ∷ parts) s =
        ap (λ ns. rules.note (facts s) a ∷ ns) (notes_same parts (after_part rules facts next a s) ∙ ap (λ f. notes_of rules (λ f. f) told f parts) (part_same a s))

    pub posts_same : (parts : List Part) (s : Kept) → posts_of rules facts next s parts ≡ posts_of rules (λ f. f) told (facts s) parts
    unfolding posts_of
    posts_same [] s = refl
    posts_same (a ∷ parts) s =
        ap (λ ds. rules.posts (facts s) a (rules.note (facts s) a) ++ ds) (posts_same parts (after_part rules facts next a s) ∙ ap (λ f. posts_of rules (λ f. f) told f parts) (part_same a s))
