-- Ids that are named in a run, as a process could know of them: the parent knows them, or the process made them
-- itself. So what is made is new or was made before below the same, and makings are coherent.
use Rattle.std.proofs.Common.{◌≡◌, ◌⊎◌, inl, inr, ℕ, ◌+◌, ◌≤◌, ◌==◌, Bool, true, false, ◌&&◌, if◌then◌else◌, None, Some, List, [], ◌∷◌, ◌++◌, refl, ap, sym, subst, ◌∙◌, arith, eqb-true, eq-eqb}
use Rattle.std.specs.Prelude.{nat_lt, nat_le}
use Rattle.std.specs.List.{AllByRecursion}
use Rattle.fission_ids.specs.declared.context.ContextId.{ContextId}
use Rattle.fission_ids.specs.declared.group.GroupId.{GroupId}
use Rattle.fission_ids.specs.Ids.{same_context}
use Rattle.wire_msgs.specs.declared.config.Config.{Config}
use Rattle.protocol.specs.FactsAfter.{facts_after}
use Rattle.protocol.specs.Hear.{is_new_frame}
use Rattle.protocol.specs.Questions.{Facts}
use Rattle.protocol.specs.Sayings.{Saying}
use Rattle.protocol.specs.Sayings.Saying.{Opened, Made, BornDead, Removed, Wrote, Acked, Subscribed, Counted, Sent, Ended}
use Rattle.model.specs.Lines.{Making, makings_said, above_in, opened_in}
use Rattle.model.specs.Lines.Making.{Below, Top}
use Rattle.model.specs.Parent.{asked}
use Rattle.model.proofs.AskedMore.{asked_more}
use Rattle.model.proofs.Cases.{by_if, true_false, same_context_is, same_itself, same_swapped}
use Rattle.model.proofs.Fitting.{MadeFits, BornFits, OpenedFits, made_or}
use Rattle.model.proofs.Lining.{IsUnnamed, IsCoherent, Coherent, IsPlaced, told_still}
use Rattle.model.proofs.Owning.{TabsLow, tabs_low_still}

pub all_map : {X : Type 0} (P Q : X → Type 0) → ((x : X) → P x → Q x) → (xs : List X) → AllByRecursion P xs → AllByRecursion Q xs
all_map P Q step [] all = tt
all_map P Q step (x ∷ xs) all = (step x all.0, all_map P Q step xs all.1)

-- ---- what is named

-- the parent knows it, or it's one of the first n frames of process p
abbrev pub IsNamed : ℕ → Facts → ℕ → ContextId → Type 0
IsNamed p f n x = (f.contexts.known x ≡ true) ⊎ ((x.creator ≡ p + 1) × (x.serial ≤ n))

abbrev pub BothNamed : ℕ → Facts → ℕ → Making → Type 0
BothNamed p f n (Below x a) = IsNamed p f n x × IsNamed p f n a
BothNamed p f n (Top x g) = IsNamed p f n x

-- makings as process p could know of them: they go together, and all that they name is named; of the frames of the
-- process the parent knows at most the first n
pub record MakingTies (p : ℕ) (f : Facts) (n : ℕ) (mk : List Making) : Type 0 where
  pub coherent : Coherent mk
  pub frames : AllByRecursion IsPlaced mk
  pub named : AllByRecursion (BothNamed p f n) mk
  pub own_known : (x : ContextId) → f.contexts.known x ≡ true → x.creator ≡ p + 1 → x.serial ≤ n
  pub tabs_low : TabsLow f
  pub live_known : (x : ContextId) → f.contexts.live x ≡ true → f.contexts.known x ≡ true

pub named_more : (p : ℕ) (f g : Facts) (n k : ℕ) (x : ContextId) → (f.contexts.known x ≡ true → g.contexts.known x ≡ true) → n ≤ k → IsNamed p f n x → IsNamed p g k x
named_more p f g n k x known more (inl is) = inl (known is)
named_more p f g n k x known more (inr own) = inr (own.0, omega (arith, more, own.1))

both_more : (p : ℕ) (f g : Facts) (n k : ℕ) (mk : List Making) → ((x : ContextId) → f.contexts.known x ≡ true → g.contexts.known x ≡ true) → n ≤ k
    → AllByRecursion (BothNamed p f n) mk → AllByRecursion (BothNamed p g k) mk
both_more p f g n k mk known more = all_map (BothNamed p f n) (BothNamed p g k)
    each mk
  where
    each : (m : Making) → BothNamed p f n m → BothNamed p g k m
    each (Below x a) b = (named_more p f g n k x (known x) more b.0, named_more p f g n k a (known a) more b.1)
    each (Top x i) b = named_more p f g n k x (known x) more b

-- ---- what is new

apart : (p : ℕ) (f : Facts) (n : ℕ) (x y : ContextId) → (IsNamed p f n x → ⊥) → IsNamed p f n y → same_context x y ≡ false
apart p f n x y new named = by_test (same_context x y) refl
  where
    by_test : (b : Bool) → same_context x y ≡ b → same_context x y ≡ false
    by_test true is = absurd (new (subst (IsNamed p f n) (sym (same_context_is x y is)) named))
    by_test false isnt = isnt

unnamed : (p : ℕ) (f : Facts) (n : ℕ) (x : ContextId) (mk : List Making) → (IsNamed p f n x → ⊥) → AllByRecursion (BothNamed p f n) mk → AllByRecursion (IsUnnamed x) mk
unnamed p f n x mk new = all_map (BothNamed p f n) (IsUnnamed x) each mk
  where
    each : (m : Making) → BothNamed p f n m → IsUnnamed x m
    each (Below y a) b = (apart p f n x y new b.0, same_swapped a x ∙ apart p f n x a new b.1)
    each (Top y g) b = apart p f n x y new b

coherent_new : (p : ℕ) (f : Facts) (n : ℕ) (x a : ContextId) (mk : List Making) → (IsNamed p f n x → ⊥) → IsNamed p f n a → AllByRecursion (BothNamed p f n) mk → IsCoherent (Below x a) mk
coherent_new p f n x a mk new below named = inr (unnamed p f n x mk new named, same_swapped a x ∙ apart p f n x a new below)

-- what isn't named wasn't opened
unopened : (p : ℕ) (f : Facts) (n : ℕ) (x : ContextId) (mk : List Making) → (IsNamed p f n x → ⊥) → AllByRecursion (BothNamed p f n) mk → opened_in mk x ≡ None
unopened p f n x [] new named = refl
unopened p f n x (Below y a ∷ mk) new named = unopened p f n x mk new named.1
unopened p f n x (Top y g ∷ mk) new named = ap (λ (b : Bool). if b then Some g else opened_in mk x) (apart p f n x y new named.0) ∙ unopened p f n x mk new named.1

-- ---- what the parent says

-- a frame that process p made before, one of its first n
pub record IsAgain (p n : ℕ) (mk : List Making) (x above : ContextId) : Type 0 where
  pub told : above_in mk x ≡ Some above
  pub own : x.creator ≡ p + 1
  pub counted : x.serial ≤ n

-- process q makes it, who is another or made it before
abbrev pub MakerFits : ℕ → ℕ → List Making → ℕ → ContextId → ContextId → Type 0
MakerFits p n mk q x a = ((q == p) ≡ false) ⊎ IsAgain p n mk x a

abbrev pub NamesFit : ℕ → ℕ → List Making → Facts → Saying → Type 0
NamesFit p n mk f (Opened x g is_new q) = OpenedFits f x q
NamesFit p n mk f (Made q x a) = MadeFits f q x a × MakerFits p n mk q x a
NamesFit p n mk f (BornDead q x a) = BornFits f q x a × MakerFits p n mk q x a
NamesFit p n mk f y = Unit {0}

-- each of these, the newest first, said behind what was said before
abbrev pub AllNamesFit : Config → ℕ → ℕ → List Saying → List Making → List Saying → Type 0
AllNamesFit c p n old mk [] = Unit {0}
AllNamesFit c p n old mk (y ∷ ys) = NamesFit p n (makings_said ys ++ mk) (asked c.tabs (ys ++ old)) y × AllNamesFit c p n old mk ys

-- where the same is known
ties_same : (p : ℕ) (f g : Facts) (n : ℕ) (mk : List Making) → (TabsLow f → TabsLow g) → ((x : ContextId) → g.contexts.known x ≡ f.contexts.known x)
    → ((x : ContextId) → g.contexts.live x ≡ true → f.contexts.live x ≡ true)
    → MakingTies p f n mk → MakingTies p g n mk
ties_same p f g n mk low known live t = record {
  coherent = t.coherent;
  frames = t.frames;
  named = both_more p f g n n mk (λ x e. known x ∙ e) (omega arith) t.named;
  own_known = λ x e own. t.own_known x (sym (known x) ∙ e) own;
  tabs_low = low t.tabs_low;
  live_known = λ x e. known x ∙ t.live_known x (live x e);
}

-- where one more is
ties_made : (p : ℕ) (f g : Facts) (n : ℕ) (mk : List Making) (q : ℕ) (x a : ContextId) → is_new_frame q x ≡ true → f.contexts.known x ≡ false → f.contexts.known a ≡ true → MakerFits p n mk q x a
    → (TabsLow f → TabsLow g) → ((y : ContextId) → g.contexts.known y ≡ (if same_context y x then true else f.contexts.known y))
    → ((y : ContextId) → g.contexts.live y ≡ true → g.contexts.known y ≡ true)
    → MakingTies p f n mk → MakingTies p g n (Below x a ∷ mk)
ties_made p f g n mk q x a frame new a_known maker low known_is live t = record {
  coherent = (co maker, t.coherent);
  frames = ((λ e. absurd (omega (arith, sym e ∙ creator_is))), t.frames);
  named = ((inl now_known, inl (still a a_known)), both_more p f g n n mk still (omega arith) t.named);
  own_known = λ y e own. made_or (λ z. z.creator ≡ p + 1 → z.serial ≤ n) x y f.contexts.known (sym (known_is y) ∙ e) (own_new maker) (t.own_known y) own;
  tabs_low = low t.tabs_low;
  live_known = live;
}
  where
    first_of_three : (u v w : Bool) → (u && v && w) ≡ true → u ≡ true
    first_of_three true v w e = refl
    first_of_three false v w e = absurd cc

    creator_is : x.creator ≡ q + 1
    creator_is = eqb-true x.creator (q + 1) (first_of_three (x.creator == q + 1) (nat_lt 0 x.serial) (nat_le x.serial 240) frame)

    still : (y : ContextId) → f.contexts.known y ≡ true → g.contexts.known y ≡ true
    still y e = known_is y ∙ by_if (λ b. b ≡ true) (same_context y x) true (f.contexts.known y) (λ is. refl) (λ isnt. e)

    now_known : g.contexts.known x ≡ true
    now_known = known_is x ∙ ap (λ (b : Bool). if b then true else f.contexts.known x) (same_itself x)

    not_own : (q == p) ≡ false → x.creator ≡ p + 1 → ⊥
    not_own other own = let same : q ≡ p = omega (arith, sym creator_is ∙ own) in true_false (q == p) (eq-eqb q p same) other

    never : (q == p) ≡ false → IsNamed p f n x → ⊥
    never other (inl known) = true_false (f.contexts.known x) known new
    never other (inr own) = not_own other own.0

    co : MakerFits p n mk q x a → IsCoherent (Below x a) mk
    co (inl other) = coherent_new p f n x a mk (never other) (inl a_known) t.named
    co (inr again) = inl again.told

    own_new : MakerFits p n mk q x a → x.creator ≡ p + 1 → x.serial ≤ n
    own_new (inl other) own = absurd (not_own other own)
    own_new (inr again) own = again.counted

-- where a tab's context is made
ties_opened : (p : ℕ) (f : Facts) (n : ℕ) (mk : List Making) (x : ContextId) (g : GroupId) (is_new : Bool) (q : ℕ) → OpenedFits f x q → MakingTies p f n mk
    → MakingTies p (facts_after (Opened x g is_new q) f) n (Top x g ∷ mk)
unfolding facts_after
ties_opened p f n mk x g is_new q fits t = record {
  coherent = (unopened p f n x mk never t.named, t.coherent);
  frames = (tt, t.frames);
  named = (inl now_known, both_more p f (facts_after (Opened x g is_new q) f) n n mk still (omega arith) t.named);
  own_known = λ y e own. made_or (λ z. z.creator ≡ p + 1 → z.serial ≤ n) x y f.contexts.known e (λ own. absurd (omega (arith, sym own ∙ creator_is))) (t.own_known y) own;
  tabs_low = tabs_low_still f (Opened x g is_new q) fits t.tabs_low;
  live_known = λ y e. made_or (λ z. (if same_context z x then true else f.contexts.known z) ≡ true) x y f.contexts.live e now_known (λ was. still y (t.live_known y was));
}
  where
    creator_is : x.creator ≡ 0
    creator_is = ap (λ (z : ContextId). z.creator) fits.next

    serial_is : x.serial ≡ f.tabs_made + 1
    serial_is = ap (λ (z : ContextId). z.serial) fits.next

    still : (y : ContextId) → f.contexts.known y ≡ true → (if same_context y x then true else f.contexts.known y) ≡ true
    still y e = by_if (λ b. b ≡ true) (same_context y x) true (f.contexts.known y) (λ is. refl) (λ isnt. e)

    now_known : (if same_context x x then true else f.contexts.known x) ≡ true
    now_known = ap (λ (b : Bool). if b then true else f.contexts.known x) (same_itself x)

    never : IsNamed p f n x → ⊥
    never (inl known) = absurd (omega (arith, serial_is, t.tabs_low x known creator_is))
    never (inr own) = absurd (omega (arith, sym own.0 ∙ creator_is))

-- a saying that fits leaves them so
said_one : (p : ℕ) (f : Facts) (n : ℕ) (mk : List Making) (ys : List Saying) (y : Saying) → NamesFit p n (makings_said ys ++ mk) f y → MakingTies p f n (makings_said ys ++ mk) → MakingTies p (facts_after y f) n (makings_said (y ∷ ys) ++ mk)
unfolding facts_after
said_one p f n mk ys (Opened x g is_new q) fits t = ties_opened p f n (makings_said ys ++ mk) x g is_new q fits t
said_one p f n mk ys (Made q x a) fits t =
    ties_made p f (facts_after (Made q x a) f) n (makings_said ys ++ mk) q x a fits.0.frame fits.0.new (t.live_known a fits.0.live) fits.1 (tabs_low_still f (Made q x a) fits.0) (λ y. refl)
    (λ y e. made_or (λ z. (if same_context z x then true else f.contexts.known z) ≡ true) x y f.contexts.live e now_known (λ was. still y (t.live_known y was))) t
  where
    still : (y : ContextId) → f.contexts.known y ≡ true → (if same_context y x then true else f.contexts.known y) ≡ true
    still y e = by_if (λ b. b ≡ true) (same_context y x) true (f.contexts.known y) (λ is. refl) (λ isnt. e)

    now_known : (if same_context x x then true else f.contexts.known x) ≡ true
    now_known = ap (λ (b : Bool). if b then true else f.contexts.known x) (same_itself x)
said_one p f n mk ys (BornDead q x a) fits t =
    ties_made p f (facts_after (BornDead q x a) f) n (makings_said ys ++ mk) q x a fits.0.frame fits.0.new fits.0.below fits.1 (tabs_low_still f (BornDead q x a) fits.0) (λ y. refl)
    (λ y e. still y (t.live_known y e)) t
  where
    still : (y : ContextId) → f.contexts.known y ≡ true → (if same_context y x then true else f.contexts.known y) ≡ true
    still y e = by_if (λ b. b ≡ true) (same_context y x) true (f.contexts.known y) (λ is. refl) (λ isnt. e)
said_one p f n mk ys (Removed w but) fits t =
    ties_same p f (facts_after (Removed w but) f) n (makings_said ys ++ mk) (λ low. low) (λ x. refl) (λ x e. left (f.contexts.under x w) (f.contexts.live x) e) t
  where
    left : (u v : Bool) → (if u then false else v) ≡ true → v ≡ true
    left true v e = absurd cc
    left false v e = e
said_one p f n mk ys (Wrote x u) fits t = ties_same p f (facts_after (Wrote x u) f) n (makings_said ys ++ mk) (λ low. low) (λ x. refl) (λ x e. e) t
said_one p f n mk ys (Acked q x) fits t = ties_same p f (facts_after (Acked q x) f) n (makings_said ys ++ mk) (λ low. low) (λ x. refl) (λ x e. e) t
said_one p f n mk ys (Subscribed q g) fits t = ties_same p f (facts_after (Subscribed q g) f) n (makings_said ys ++ mk) (λ low. low) (λ x. refl) (λ x e. e) t
said_one p f n mk ys (Counted q) fits t = ties_same p f (facts_after (Counted q) f) n (makings_said ys ++ mk) (λ low. low) (λ x. refl) (λ x e. e) t
said_one p f n mk ys (Sent q) fits t = ties_same p f (facts_after (Sent q) f) n (makings_said ys ++ mk) (λ low. low) (λ x. refl) (λ x e. e) t
said_one p f n mk ys (Ended q cause) fits t = ties_same p f (facts_after (Ended q cause) f) n (makings_said ys ++ mk) (λ low. low) (λ x. refl) (λ x e. e) t

pub said_all : (c : Config) (p n : ℕ) (old : List Saying) (mk : List Making) (ys : List Saying) → AllNamesFit c p n old mk ys → MakingTies p (asked c.tabs old) n mk → MakingTies p (asked c.tabs (ys ++ old)) n (makings_said ys ++ mk)
said_all c p n old mk [] fits t = t
said_all c p n old mk (y ∷ ys) fits t =
    subst (λ g. MakingTies p g n (makings_said (y ∷ ys) ++ mk)) (sym (asked_more c.tabs y (ys ++ old)))
    (said_one p (asked c.tabs (ys ++ old)) n mk ys y fits.0 (said_all c p n old mk ys fits.1 t))

-- ---- what the process makes

pub framed_one : (p : ℕ) (f : Facts) (n : ℕ) (mk : List Making) (a : ContextId) → IsNamed p f n a → MakingTies p f n mk
    → MakingTies p f (n + 1) (Below (record { creator = p + 1; serial = n + 1 }) a ∷ mk)
framed_one p f n mk a below t = record {
  coherent = (coherent_new p f n (record { creator = p + 1; serial = n + 1 }) a mk never below t.named, t.coherent);
  frames = ((λ e. absurd (omega (arith, e))), t.frames);
  named = (
    (inr (refl, omega arith), named_more p f f n (n + 1) a (λ e. e) (omega arith) below),
    both_more p f f n (n + 1) mk (λ x e. e) (omega arith) t.named,
  );
  own_known = λ x e own. omega (arith, t.own_known x e own);
  tabs_low = t.tabs_low;
  live_known = t.live_known;
}
  where
    never : IsNamed p f n (record { creator = p + 1; serial = n + 1 }) → ⊥
    never (inl known) = absurd (omega (arith, t.own_known (record { creator = p + 1; serial = n + 1 }) known refl))
    never (inr own) = absurd (omega (arith, own.1))

-- ---- what was told is told still

pub above_still : (ns mk : List Making) → Coherent (ns ++ mk) → (x a : ContextId) → above_in mk x ≡ Some a → above_in (ns ++ mk) x ≡ Some a
above_still [] mk co x a e = e
above_still (m ∷ ns) mk co x a e = told_still (Below x a) m (ns ++ mk) co.0 (above_still ns mk co.1 x a e)
