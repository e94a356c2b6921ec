-- Who owns what, and what is known, behind what the parent says in one entry.
use Rattle.std.proofs.Common.{◌≡◌, ◌⊎◌, inl, inr, ℕ, ◌+◌, ◌≤◌, ◌==◌, Bool, true, false, ◌&&◌, ◌||◌, if◌then◌else◌, Option, None, Some, List, [], ◌∷◌, ◌++◌, refl, ap, sym, subst, ◌∙◌, arith, eqb-true, eq-eqb}
use Rattle.std.specs.Prelude.{nat_lt, nat_le}
use Rattle.std.specs.List.{AllByRecursion}
use Rattle.fission_ids.specs.declared.context.ContextId.{ContextId}
use Rattle.fission_ids.specs.Ids.{same_context}
use Rattle.wire_msgs.specs.declared.config.Config.{Config}
use Rattle.protocol.specs.FactsAfter.{facts_after}
use Rattle.protocol.specs.Questions.{Facts, option_any, is_owner}
use Rattle.protocol.specs.Sayings.{Saying}
use Rattle.protocol.specs.Sayings.Saying.{Opened, Made, BornDead, Removed, Wrote, Acked, Subscribed, Counted, Sent, Ended}
use Rattle.trees.specs.Look.{Handing, owned_behind}
use Rattle.trees.specs.Look.Handing.{Same, Given, Taken}
use Rattle.trees.specs.Rules.{told_owner}
use Rattle.model.specs.Parent.{asked}
use Rattle.model.specs.Trees.{later_hand, hand_if, says_hand, says_create}
use Rattle.model.proofs.AskedMore.{asked_more}
use Rattle.model.proofs.Cases.{by_if, true_false, same_context_is}
use Rattle.model.proofs.Entry.{FitsOver, IsOfOthers}
use Rattle.model.proofs.Fitting.{SayingFits, made_or, frame_creator}

pub later_owned : (a b : Handing) (o : Bool) → owned_behind (later_hand a b) o ≡ owned_behind a (owned_behind b o)
later_owned Same b o = refl
later_owned Given b o = refl
later_owned Taken b o = refl

pub later_same : (a : Handing) → later_hand a Same ≡ a
later_same Same = refl
later_same Given = refl
later_same Taken = refl

owner_is : (b : Bool) (o : Bool) → owned_behind (told_owner b) o ≡ b
owner_is true o = refl
owner_is false o = refl

-- what a saying hands over
abbrev pub hand_one : ℕ → ContextId → Saying → Handing
hand_one p x y = says_hand p x (y ∷ [])

pub hand_more : (p : ℕ) (x : ContextId) (y : Saying) (ys : List Saying) → says_hand p x (y ∷ ys) ≡ later_hand (hand_one p x y) (says_hand p x ys)
hand_more p x (Opened z g is_new q) ys = ap (λ h. later_hand h (says_hand p x ys)) (sym (later_same (hand_if (same_context x z) (told_owner (q == p)))))
hand_more p x (Made q z a) ys = ap (λ h. later_hand h (says_hand p x ys)) (sym (later_same (hand_if (same_context x z) (told_owner (q == p)))))
hand_more p x (_) ys = refl

-- a process is the owner of a live context as the parent answers it
abbrev pub OwnerTies : ℕ → Facts → (ContextId → Bool) → Type 0
OwnerTies p f owned = (x : ContextId) → f.contexts.live x ≡ true → owned x ≡ is_owner f p x

-- it isn't ended by a saying
abbrev pub IsNoEndOf : ℕ → Saying → Type 0
IsNoEndOf p (Ended q cause) = (q == p) ≡ false
IsNoEndOf p y = Unit {0}

pub owner_still : (p : ℕ) (f : Facts) (owned : ContextId → Bool) (y : Saying) → SayingFits f y → IsNoEndOf p y → OwnerTies p f owned → OwnerTies p (facts_after y f) (λ x. owned_behind (hand_one p x y) (owned x))
unfolding facts_after
owner_still p f owned (Opened z g is_new q) fits alive t = λ x live. by_test x (same_context x z) live
  where
    by_test : (x : ContextId) (b : Bool) → (if b then true else f.contexts.live x) ≡ true
        → owned_behind (later_hand (hand_if b (told_owner (q == p))) Same) (owned x) ≡ option_any (λ r. r == p) (if b then Some q else f.contexts.owner x)
    by_test x true live = ap (λ h. owned_behind h (owned x)) (later_same (told_owner (q == p))) ∙ owner_is (q == p) (owned x)
    by_test x false live = t x live
owner_still p f owned (Subscribed q g) fits alive t = t
owner_still p f owned (Made q z a) fits alive t = λ x live. by_test x (same_context x z) live
  where
    by_test : (x : ContextId) (b : Bool) → (if b then true else f.contexts.live x) ≡ true
        → owned_behind (later_hand (hand_if b (told_owner (q == p))) Same) (owned x) ≡ option_any (λ r. r == p) (if b then Some q else f.contexts.owner x)
    by_test x true live = ap (λ h. owned_behind h (owned x)) (later_same (told_owner (q == p))) ∙ owner_is (q == p) (owned x)
    by_test x false live = t x live
owner_still p f owned (BornDead q z a) fits alive t = t
owner_still p f owned (Removed w but) fits alive t = λ x live. by_test x (f.contexts.under x w) live
  where
    by_test : (x : ContextId) (b : Bool) → (if b then false else f.contexts.live x) ≡ true → owned x ≡ option_any (λ r. r == p) (if b then None else f.contexts.owner x)
    by_test x true live = absurd cc
    by_test x false live = t x live
owner_still p f owned (Wrote z c) fits alive t = t
owner_still p f owned (Acked q z) fits alive t = t
owner_still p f owned (Counted q) fits alive t = t
owner_still p f owned (Sent q) fits alive t = t
owner_still p f owned (Ended q cause) fits alive t = λ x live. t x live ∙ by_owner (f.contexts.owner x)
  where
    by_owner : (o : Option ℕ) → option_any (λ r. r == p) o ≡ option_any (λ r. r == p) (if option_any (λ r. r == q) o then None else o)
    by_owner None = refl
    by_owner (Some n) = by_test (n == q) refl
      where
        by_test : (b : Bool) → (n == q) ≡ b → (n == p) ≡ option_any (λ r. r == p) (if b then None else Some n)
        by_test true is = ap (λ m. m == p) (eqb-true n q is) ∙ alive
        by_test false isnt = refl

pub owner_all : (c : Config) (p : ℕ) (old : List Saying) (owned : ContextId → Bool) (ys : List Saying) → FitsOver c old ys → AllByRecursion (IsNoEndOf p) ys → OwnerTies p (asked c.tabs old) owned
    → OwnerTies p (asked c.tabs (ys ++ old)) (λ x. owned_behind (says_hand p x ys) (owned x))
owner_all c p old owned [] fits alive t = t
owner_all c p old owned (y ∷ ys) fits alive t = λ x live.
    ap (λ h. owned_behind h (owned x)) (hand_more p x y ys) ∙ later_owned (hand_one p x y) (says_hand p x ys) (owned x)
    ∙ owner_still p (asked c.tabs (ys ++ old)) (λ z. owned_behind (says_hand p z ys) (owned z)) y fits.0 alive.0 (owner_all c p old owned ys fits.1 alive.1 t) x
    (ap (λ (g : Facts). g.contexts.live x) (sym (asked_more c.tabs y (ys ++ old))) ∙ live)
    ∙ ap (λ (g : Facts). is_owner g p x) (sym (asked_more c.tabs y (ys ++ old)))

-- ---- what is known

known_still : (f : Facts) (y : Saying) (x : ContextId) → f.contexts.known x ≡ true → (facts_after y f).contexts.known x ≡ true
unfolding facts_after
known_still f (Opened z g true q) x e = by_if (λ b. b ≡ true) (same_context x z) true (f.contexts.known x) (λ is. refl) (λ isnt. e)
known_still f (Opened z g false q) x e = by_if (λ b. b ≡ true) (same_context x z) true (f.contexts.known x) (λ is. refl) (λ isnt. e)
known_still f (Made q z a) x e = by_if (λ b. b ≡ true) (same_context x z) true (f.contexts.known x) (λ is. refl) (λ isnt. e)
known_still f (BornDead q z a) x e = by_if (λ b. b ≡ true) (same_context x z) true (f.contexts.known x) (λ is. refl) (λ isnt. e)
known_still f (Removed w but) x e = e
known_still f (Wrote z c) x e = e
known_still f (Acked q z) x e = e
known_still f (Subscribed q g) x e = e
known_still f (Counted q) x e = e
known_still f (Sent q) x e = e
known_still f (Ended q cause) x e = e

pub known_all : (c : Config) (old ys : List Saying) (x : ContextId) → (asked c.tabs old).contexts.known x ≡ true → (asked c.tabs (ys ++ old)).contexts.known x ≡ true
known_all c old [] x e = e
known_all c old (y ∷ ys) x e = ap (λ (g : Facts). g.contexts.known x) (asked_more c.tabs y (ys ++ old)) ∙ known_still (asked c.tabs (ys ++ old)) y x (known_all c old ys x e)

-- what is made is known behind it
now_known : (f : Facts) (y : Saying) (x : ContextId) → SayingFits f y → says_create x (y ∷ []) ≡ true → (facts_after y f).contexts.known x ≡ true
unfolding facts_after
now_known f (Opened z g is_new q) x fits e = by_or (same_context x z) (f.contexts.known x) e
  where
    by_or : (b k : Bool) → (b || false) ≡ true → (if b then true else k) ≡ true
    by_or true k e = refl
    by_or false k e = absurd cc
now_known f (Made q z a) x fits e = by_or (same_context x z) (f.contexts.known x) e
  where
    by_or : (b k : Bool) → (b || false) ≡ true → (if b then true else k) ≡ true
    by_or true k e = refl
    by_or false k e = absurd cc
now_known f (_) x fits e = absurd cc

create_more : (x : ContextId) (y : Saying) (ys : List Saying) → says_create x (y ∷ ys) ≡ true → (says_create x (y ∷ []) ≡ true) ⊎ (says_create x ys ≡ true)
create_more x (Opened z g is_new q) ys e = by_or (same_context x z) (says_create x ys) e
  where
    by_or : (a b : Bool) → (a || b) ≡ true → ((a || false) ≡ true) ⊎ (b ≡ true)
    by_or true b e = inl refl
    by_or false b e = inr e
create_more x (Made q z a) ys e = by_or (same_context x z) (says_create x ys) e
  where
    by_or : (a b : Bool) → (a || b) ≡ true → ((a || false) ≡ true) ⊎ (b ≡ true)
    by_or true b e = inl refl
    by_or false b e = inr e
create_more x (_) ys e = inr e

pub created_known : (c : Config) (old ys : List Saying) (x : ContextId) → FitsOver c old ys → says_create x ys ≡ true → (asked c.tabs (ys ++ old)).contexts.known x ≡ true
created_known c old [] x fits e = absurd cc
created_known c old (y ∷ ys) x fits e = by_one (create_more x y ys e) (created_known c old ys x fits.1)
  where
    by_one : (says_create x (y ∷ []) ≡ true) ⊎ (says_create x ys ≡ true) → (says_create x ys ≡ true → (asked c.tabs (ys ++ old)).contexts.known x ≡ true) → (asked c.tabs ((y ∷ ys) ++ old)).contexts.known x ≡ true
    by_one (inl now) rest = ap (λ (g : Facts). g.contexts.known x) (asked_more c.tabs y (ys ++ old)) ∙ now_known (asked c.tabs (ys ++ old)) y x fits.0 now
    by_one (inr before) rest = ap (λ (g : Facts). g.contexts.known x) (asked_more c.tabs y (ys ++ old)) ∙ known_still (asked c.tabs (ys ++ old)) y x (rest before)

-- the tabs' contexts that are known are numbered up to the number of those that were made
abbrev pub TabsLow : Facts → Type 0
TabsLow f = (x : ContextId) → f.contexts.known x ≡ true → x.creator ≡ 0 → x.serial ≤ f.tabs_made

pub tabs_low_still : (f : Facts) (y : Saying) → SayingFits f y → TabsLow f → TabsLow (facts_after y f)
unfolding facts_after
tabs_low_still f (Opened z g is_new q) fits low = λ x e tab. made_or (λ w. w.creator ≡ 0 → w.serial ≤ f.tabs_made + 1) z x f.contexts.known e
    (λ top. let serial_is : z.serial ≡ f.tabs_made + 1 = ap (λ (w : ContextId). w.serial) fits.next in omega (arith, serial_is)) (λ was top. omega (arith, low x was top)) tab
tabs_low_still f (Made q z a) fits low =
    λ x e tab. made_or (λ w. w.creator ≡ 0 → w.serial ≤ f.tabs_made) z x f.contexts.known e (λ none. absurd (omega (arith, sym none ∙ frame_creator q z fits.frame))) (low x) tab
tabs_low_still f (BornDead q z a) fits low =
    λ x e tab. made_or (λ w. w.creator ≡ 0 → w.serial ≤ f.tabs_made) z x f.contexts.known e (λ none. absurd (omega (arith, sym none ∙ frame_creator q z fits.frame))) (low x) tab
tabs_low_still f (Removed w but) fits low = low
tabs_low_still f (Wrote z c) fits low = low
tabs_low_still f (Acked q z) fits low = low
tabs_low_still f (Subscribed q g) fits low = low
tabs_low_still f (Counted q) fits low = low
tabs_low_still f (Sent q) fits low = low
tabs_low_still f (Ended q cause) fits low = low

pub tabs_low_all : (c : Config) (old ys : List Saying) → FitsOver c old ys → TabsLow (asked c.tabs old) → TabsLow (asked c.tabs (ys ++ old))
tabs_low_all c old [] fits low = low
tabs_low_all c old (y ∷ ys) fits low = subst TabsLow (sym (asked_more c.tabs y (ys ++ old))) (tabs_low_still (asked c.tabs (ys ++ old)) y fits.0 (tabs_low_all c old ys fits.1 low))

-- what is made wasn't known
pub created_new : (c : Config) (old ys : List Saying) (x : ContextId) → TabsLow (asked c.tabs old) → FitsOver c old ys → says_create x ys ≡ true → (asked c.tabs old).contexts.known x ≡ true → ⊥
created_new c old [] x low fits e known = absurd cc
created_new c old (y ∷ ys) x low fits e known = by_one y fits.0 (create_more x y ys e) (created_new c old ys x low fits.1)
  where
    fits_before : FitsOver c old ys
    fits_before = fits.1

    by_saying : (y : Saying) → SayingFits (asked c.tabs (ys ++ old)) y → says_create x (y ∷ []) ≡ true → ⊥
    by_saying (Made q z a) fits e = by_or (same_context x z) refl e
      where
        by_or : (b : Bool) → same_context x z ≡ b → (b || false) ≡ true → ⊥
        by_or true is e = true_false ((asked c.tabs (ys ++ old)).contexts.known z) (subst (λ w. (asked c.tabs (ys ++ old)).contexts.known w ≡ true) (same_context_is x z is) (known_all c old ys x known)) fits.new
        by_or false is e = absurd cc
    by_saying (Opened z g is_new q) fits e = by_or (same_context x z) refl e
      where
        serial_is : z.serial ≡ (asked c.tabs (ys ++ old)).tabs_made + 1
        serial_is = ap (λ (w : ContextId). w.serial) fits.next

        by_or : (b : Bool) → same_context x z ≡ b → (b || false) ≡ true → ⊥
        by_or true is e = absurd (omega (
          arith,
          serial_is,
          tabs_low_all c old ys fits_before low z
              (subst (λ w. (asked c.tabs (ys ++ old)).contexts.known w ≡ true) (same_context_is x z is) (known_all c old ys x known)) (ap (λ (w : ContextId). w.creator) fits.next),
        ))
        by_or false is e = absurd cc
    by_saying (_) fits e = absurd cc

    by_one : (y : Saying) → SayingFits (asked c.tabs (ys ++ old)) y → (says_create x (y ∷ []) ≡ true) ⊎ (says_create x ys ≡ true) → (says_create x ys ≡ true → (asked c.tabs old).contexts.known x ≡ true → ⊥) → ⊥
    by_one y fits (inl now) rest = by_saying y fits now
    by_one y fits (inr before) rest = rest before known

-- and is made by the process with its number
pub created_by_others : (c : Config) (p : ℕ) (old ys : List Saying) (x : ContextId) → FitsOver c old ys → AllByRecursion (IsOfOthers p) ys → says_create x ys ≡ true → (x.creator == p + 1) ≡ false
created_by_others c p old [] x fits others e = absurd cc
created_by_others c p old (y ∷ ys) x fits others e = by_one (create_more x y ys e) (created_by_others c p old ys x fits.1 others.1)
  where
    first_of_three : (u v w : Bool) → (u && v && w) ≡ true → u ≡ true
    first_of_three true v w e = refl
    first_of_three false v w e = absurd cc

    other_number : (n q : ℕ) → n ≡ q + 1 → (q == p) ≡ false → (n == p + 1) ≡ false
    other_number n q e other = by_test (n == p + 1) refl
      where
        by_test : (b : Bool) → (n == p + 1) ≡ b → (n == p + 1) ≡ false
        by_test false is = is
        by_test true is = let same : q ≡ p = omega (arith, sym e ∙ eqb-true n (p + 1) is) in true_false (q == p) (eq-eqb q p same) other

    by_saying : (y : Saying) → SayingFits (asked c.tabs (ys ++ old)) y → IsOfOthers p y → says_create x (y ∷ []) ≡ true → (x.creator == p + 1) ≡ false
    by_saying (Made q z a) fits other e = by_or (same_context x z) refl e
      where
        by_or : (b : Bool) → same_context x z ≡ b → (b || false) ≡ true → (x.creator == p + 1) ≡ false
        by_or true is e =
            other_number x.creator q (ap (λ (w : ContextId). w.creator) (same_context_is x z is) ∙ eqb-true z.creator (q + 1) (first_of_three (z.creator == q + 1) (nat_lt 0 z.serial) (nat_le z.serial 240) fits.frame)) other
        by_or false is e = absurd cc
    by_saying (Opened z g is_new q) fits other e = by_or (same_context x z) refl e
      where
        no_number : (n : ℕ) → n ≡ 0 → (n == p + 1) ≡ false
        no_number n e = by_test (n == p + 1) refl
          where
            by_test : (b : Bool) → (n == p + 1) ≡ b → (n == p + 1) ≡ false
            by_test false is = is
            by_test true is = absurd (omega (arith, sym e ∙ eqb-true n (p + 1) is))

        by_or : (b : Bool) → same_context x z ≡ b → (b || false) ≡ true → (x.creator == p + 1) ≡ false
        by_or true is e = no_number x.creator (ap (λ (w : ContextId). w.creator) (same_context_is x z is) ∙ ap (λ (w : ContextId). w.creator) fits.next)
        by_or false is e = absurd cc
    by_saying (_) fits other e = absurd cc

    by_one : (says_create x (y ∷ []) ≡ true) ⊎ (says_create x ys ≡ true) → (says_create x ys ≡ true → (x.creator == p + 1) ≡ false) → (x.creator == p + 1) ≡ false
    by_one (inl now) rest = by_saying y fits.0 others.0 now
    by_one (inr before) rest = rest before

-- who owns what is handed over only as it is made
pub handed_created : (p : ℕ) (x : ContextId) (ys : List Saying) → (says_hand p x ys ≡ Same) ⊎ (says_create x ys ≡ true)
handed_created p x [] = inl refl
handed_created p x (Opened z g is_new q ∷ ys) = by_test (same_context x z) (handed_created p x ys)
  where
    by_test : (b : Bool) → (says_hand p x ys ≡ Same) ⊎ (says_create x ys ≡ true) → (later_hand (hand_if b (told_owner (q == p))) (says_hand p x ys) ≡ Same) ⊎ ((b || says_create x ys) ≡ true)
    by_test true rest = inr refl
    by_test false rest = rest
handed_created p x (Made q z a ∷ ys) = by_test (same_context x z) (handed_created p x ys)
  where
    by_test : (b : Bool) → (says_hand p x ys ≡ Same) ⊎ (says_create x ys ≡ true) → (later_hand (hand_if b (told_owner (q == p))) (says_hand p x ys) ≡ Same) ⊎ ((b || says_create x ys) ≡ true)
    by_test true rest = inr refl
    by_test false rest = rest
handed_created p x (_ ∷ ys) = handed_created p x ys

-- and then it has an owner
pub created_handed : (c : Config) (p : ℕ) (old : List Saying) (x : ContextId) (ys : List Saying) → FitsOver c old ys → says_create x ys ≡ true → says_hand p x ys ≡ Same → ⊥
created_handed c p old x [] fits e same = absurd cc
created_handed c p old x (y ∷ ys) fits e same = by_saying y fits.0 e same (created_handed c p old x ys fits.1)
  where
    no_same : (b : Bool) (h : Handing) → later_hand (told_owner b) h ≡ Same → ⊥
    no_same true h e = absurd cc
    no_same false h e = absurd cc

    by_saying : (y : Saying) → SayingFits (asked c.tabs (ys ++ old)) y → says_create x (y ∷ ys) ≡ true → says_hand p x (y ∷ ys) ≡ Same → (says_create x ys ≡ true → says_hand p x ys ≡ Same → ⊥) → ⊥
    by_saying (Opened z g is_new q) fits e same rest = by_test (same_context x z) e same
      where
        by_test : (b : Bool) → (b || says_create x ys) ≡ true → later_hand (hand_if b (told_owner (q == p))) (says_hand p x ys) ≡ Same → ⊥
        by_test true e same = no_same (q == p) (says_hand p x ys) same
        by_test false e same = rest e same
    by_saying (Made q z a) fits e same rest = by_test (same_context x z) e same
      where
        by_test : (b : Bool) → (b || says_create x ys) ≡ true → later_hand (hand_if b (told_owner (q == p))) (says_hand p x ys) ≡ Same → ⊥
        by_test true e same = no_same (q == p) (says_hand p x ys) same
        by_test false e same = rest e same
    by_saying (_) fits e same rest = rest e same
