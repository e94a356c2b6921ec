-- Which group a number names, and what a change does to each.
use Rattle.std.proofs.Common.{◌≡◌, ℕ, zero, suc, ◌-◌, ◌<◌, ◌≤◌, ◌==◌, ◌⊎◌, Bool, true, false, ◌&&◌, ◌||◌, if◌then◌else◌, List, [], ◌∷◌, ◌++◌, length, map, get_or, set, inl, inr, arith, sym, ap, ap₂, ◌∙◌, refl, get_or-set_same, get_or-set_other}
use Rattle.std.proofs.lemmas.Bool.{cases_lt, cases_eq}
use Rattle.std.proofs.lemmas.Bool.Decides.{nat_tests}
use Rattle.std.proofs.lemmas.List.{get_or_past, get_or_default}
use Rattle.std.proofs.Math.ListN.{get_or-map}
use Rattle.fission_ids.specs.declared.group.GroupId.{GroupId}
use Rattle.context_group.specs.declared.group.Group.{Group}
use Rattle.context_group.specs.Groups.{no_group, new_group, group_at, IsMade, at_group}

numbered : (n : ℕ) (gs : List Group) → ((1 ≤ n) × (n ≤ length gs)) ⊎ (get_or (no_group ∷ gs) n no_group ≡ no_group)
numbered zero gs = inr refl
numbered (suc n) gs = elim (cases_lt n (length gs)) [ inl below ↦ inl (omega arith, omega arith) | inr past ↦ inr (get_or_past gs n no_group past) ]

-- a group that differs from none was made
pub made_or_none : (g : GroupId) (gs : List Group) → (IsMade g gs) ⊎ (group_at g gs ≡ no_group)
made_or_none g gs = numbered g.0 gs

-- a group that is kept was made
pub made_if_kept : (g : GroupId) (gs : List Group) → (group_at g gs).is_kept ≡ true → IsMade g gs
made_if_kept g gs kept = elim (made_or_none g gs) [ inl made ↦ made | inr none ↦ let e : (group_at g gs).is_kept ≡ false = ap (λ (x : Group). x.is_kept) none in absurd (cc) ]

-- one that has a live context was made
pub made_if_live : (g : GroupId) (gs : List Group) → 1 ≤ (group_at g gs).live → IsMade g gs
made_if_live g gs live = elim (made_or_none g gs) [ inl made ↦ made | inr none ↦ let e : (group_at g gs).live ≡ 0 = ap (λ (x : Group). x.live) none in absurd (omega arith) ]

-- one that was made stands at its place
at_place : (n : ℕ) (gs : List Group) (d : Group) → 1 ≤ n → n ≤ length gs → get_or gs (n - 1) d ≡ get_or (no_group ∷ gs) n no_group
at_place zero gs d low high = absurd (omega arith)
at_place (suc n) gs d low high = let e : suc n - 1 ≡ n = omega arith in let within : n < length gs = omega arith in ap (λ m. get_or gs m d) e ∙ get_or_default gs n d no_group within

pub group_at_place : (g : GroupId) (gs : List Group) (d : Group) → IsMade g gs → get_or gs (g.0 - 1) d ≡ group_at g gs
group_at_place g gs d made = at_place g.0 gs d made.0 made.1

set_at_place : (n : ℕ) (gs : List Group) (v : Group) → 1 ≤ n → no_group ∷ set gs (n - 1) v ≡ set (no_group ∷ gs) n v
set_at_place zero gs v low = absurd (omega arith)
set_at_place (suc n) gs v low = let e : suc n - 1 ≡ n = omega arith in ap (λ m. no_group ∷ set gs m v) e

at_number : (m n : ℕ) (gs : List Group) (v : Group) → n ≤ length gs → get_or (set (no_group ∷ gs) n v) m no_group ≡ (if m == n then v else get_or (no_group ∷ gs) m no_group)
at_number m n gs v high = elim (cases_eq m n) [
  | inl same ↦
      let within : n < length (no_group ∷ gs) = omega arith in
      let test : (m == n) ≡ true = grind (arith, nat_tests) in
      ap (λ k. get_or (set (no_group ∷ gs) n v) k no_group) same ∙ get_or-set_same (no_group ∷ gs) n v no_group within ∙ sym (ap (λ b. if b then v else get_or (no_group ∷ gs) m no_group) test)
  | inr other ↦
      let test : (m == n) ≡ false = grind (arith, nat_tests) in
      get_or-set_other (no_group ∷ gs) n m v no_group other ∙ sym (ap (λ b. if b then v else get_or (no_group ∷ gs) m no_group) test)
]

-- the groups with another in one place
pub group_at-set : (g h : GroupId) (gs : List Group) (v : Group) → IsMade g gs → group_at h (set gs (g.0 - 1) v) ≡ (if h.0 == g.0 then v else group_at h gs)
group_at-set g h gs v made = ap (λ l. get_or l h.0 no_group) (set_at_place g.0 gs v made.0) ∙ at_number h.0 g.0 gs v made.1

-- what a change of a group leaves as it was stays in all groups
pub same_at : {A : Type 0} (part : Group → A) (g h : GroupId) (gs : List Group) (v : Group) → IsMade g gs → part v ≡ part (group_at g gs) → part (group_at h (set gs (g.0 - 1) v)) ≡ part (group_at h gs)
same_at part g h gs v made same =
    ap part (group_at-set g h gs v made) ∙
    elim (cases_eq h.0 g.0) [
      | inl is ↦
          let test : (h.0 == g.0) ≡ true = grind (arith, nat_tests) in
          ap (λ b. part (if b then v else group_at h gs)) test ∙ same ∙ ap (λ n. part (get_or (no_group ∷ gs) n no_group)) (sym is)
      | inr other ↦
          let test : (h.0 == g.0) ≡ false = grind (arith, nat_tests) in
          ap (λ b. part (if b then v else group_at h gs)) test
    ]

-- a test of each group, where one was changed
pub test_at : (test : Group → Bool) (more : Bool) (g h : GroupId) (gs : List Group) (v : Group) → IsMade g gs → test v ≡ (more || test (group_at g gs))
    → test (group_at h (set gs (g.0 - 1) v)) ≡ ((h.0 == g.0 && more) || test (group_at h gs))
test_at test more g h gs v made is =
    ap test (group_at-set g h gs v made) ∙
    elim (cases_eq h.0 g.0) [
      | inl same ↦
          let here : (h.0 == g.0) ≡ true = grind (arith, nat_tests) in
          ap (λ b. test (if b then v else group_at h gs)) here ∙ is ∙ ap (λ n. more || test (get_or (no_group ∷ gs) n no_group)) (sym same)
          ∙ sym (ap (λ b. (b && more) || test (group_at h gs)) here)
      | inr other ↦
          let here : (h.0 == g.0) ≡ false = grind (arith, nat_tests) in
          ap (λ b. test (if b then v else group_at h gs)) here ∙ sym (ap (λ b. (b && more) || test (group_at h gs)) here)
    ]

-- the groups with f done to each
pub group_at-map : (f : Group → Group) (h : GroupId) (gs : List Group) → f no_group ≡ no_group → group_at h (map f gs) ≡ f (group_at h gs)
group_at-map f h gs none =
    ap (λ (x : Group). get_or (x ∷ map f gs) h.0 no_group) (sym none) ∙ ap (get_or (map f (no_group ∷ gs)) h.0) (sym none) ∙ get_or-map f (no_group ∷ gs) h.0 no_group

pushed : {A : Type 0} (part : Group → A) (n : ℕ) (gs : List Group) (v d : Group) → part v ≡ part d → part (get_or (gs ++ v ∷ []) n d) ≡ part (get_or gs n d)
pushed part zero [] v d same = same
pushed part (suc n) [] v d same = refl
pushed part zero (g ∷ gs) v d same = refl
pushed part (suc n) (g ∷ gs) v d same = pushed part n gs v d same

-- what a new group has as one that wasn't made
pub same_pushed : {A : Type 0} (part : Group → A) (h : GroupId) (gs : List Group) → part new_group ≡ part no_group → part (group_at h (gs ++ new_group ∷ [])) ≡ part (group_at h gs)
same_pushed part h gs same = pushed part h.0 (no_group ∷ gs) new_group no_group same

-- one group was changed in its place
pub changed_at : (f : Group → Group) (g : GroupId) (value items : List Group) (old new : Group) → items ≡ value → IsMade g value → old ≡ get_or items (g.0 - 1) old → new ≡ f old
    → set items (g.0 - 1) new ≡ at_group f g value
changed_at f g value items old new view made is done =
    let here : old ≡ group_at g value = is ∙ ap (λ l. get_or l (g.0 - 1) old) view ∙ group_at_place g value old made in
    ap₂ (λ l v. set l (g.0 - 1) v) view (done ∙ ap f here)

-- what the change leaves as it was stays in all groups
pub same_after : {A : Type 0} (part : Group → A) (f : Group → Group) (g : GroupId) (old new : List Group) → IsMade g old → new ≡ at_group f g old → part (f (group_at g old)) ≡ part (group_at g old)
    → (h : GroupId) → part (group_at h new) ≡ part (group_at h old)
same_after part f g old new made is same h = ap (λ l. part (group_at h l)) is ∙ same_at part g h old (f (group_at g old)) made same
