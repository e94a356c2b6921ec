-- What the parent says in one entry: what comes was new, and what goes takes all below it.
use Rattle.std.proofs.Common.{◌≡◌, ◌⊎◌, inl, inr, ℕ, Bool, true, false, ◌||◌, Option, Some, List, [], ◌∷◌, ◌++◌, refl, ap, sym, subst, ◌∙◌}
use Rattle.std.specs.List.{AllByRecursion}
use Rattle.fission_ids.specs.declared.context.ContextId.{ContextId}
use Rattle.fission_ids.specs.Ids.{same_context}
use Rattle.wire_msgs.specs.declared.config.Config.{Config}
use Rattle.protocol.specs.Questions.{Facts}
use Rattle.protocol.specs.Sayings.{Saying}
use Rattle.protocol.specs.Sayings.Saying.{Opened, Made, BornDead, Removed, Wrote, Acked, Subscribed, Counted, Sent, Ended}
use Rattle.traces.specs.Words.{Stage}
use Rattle.traces.specs.Words.Stage.{Coming}
use Rattle.trees.specs.Look.{Effect, moved}
use Rattle.trees.specs.Look.Effect.{Stays, Comes, Goes}
use Rattle.trees.specs.Words.{is_held}
use Rattle.model.specs.Lines.{Making, makings_said, line, above_in, is_among}
use Rattle.model.specs.Parent.{asked}
use Rattle.model.specs.Trees.{comes_if, goes_if, both, says_do, says_create}
use Rattle.model.proofs.Cases.{true_false, same_context_is}
use Rattle.model.proofs.Entry.{FitsOver}
use Rattle.model.proofs.Fitting.{SayingFits, MadeFits, OpenedFits, FactsTies}
use Rattle.model.proofs.Lining.{Lined, IsToldBy}
use Rattle.model.proofs.Living.{LifeTies, both_stays, both_comes, both_goes, goes_later, comes_when, goes_when, says_one, says_more, in_line, was_coming, top_was_coming, opened_new, opened_top, facts_all, life_all}

-- ---- what a saying is by its effect

-- a frame was made in time, by this process and in this context, or a tab's context was made
pub data IsMaking (f : Facts) (y : Saying) (x : ContextId) : Type 0 where
  AsFrame : (maker : ℕ) (below : ContextId) → y ≡ Made maker x below → MadeFits f maker x below → IsMaking f y x
  AsTab : (owner : ℕ) → OpenedFits f x owner → IsMaking f y x

-- a context was removed, with all below it
pub record IsRemoval (f : Facts) (y : Saying) (ln : List ContextId) : Type 0 where
  pub gone : ContextId
  pub but : Option ℕ
  pub is : y ≡ Removed gone but
  pub live : f.contexts.live gone ≡ true
  pub among : is_among gone ln ≡ true

stays_never : {A : Type 0} → Stays ≡ Comes → A
stays_never e = absurd cc

stays_not_goes : {A : Type 0} → Stays ≡ Goes → A
stays_not_goes e = absurd cc

pub making : (f : Facts) (mk : List Making) (x : ContextId) (y : Saying) → SayingFits f y → says_one mk x y ≡ Comes → IsMaking f y x
making f mk x (Opened y g is_new p) fits e =
    AsTab p (subst (λ z. OpenedFits f z p) (sym (same_context_is x y (comes_when (same_context x y) (sym (both_stays (comes_if (same_context x y))) ∙ e)))) fits)
making f mk x (Made p y a) fits e =
    let is : x ≡ y = same_context_is x y (comes_when (same_context x y) (sym (both_stays (comes_if (same_context x y))) ∙ e)) in
    AsFrame p a (ap (λ z. Made p z a) (sym is)) (subst (λ z. MadeFits f p z a) (sym is) fits)
making f mk x (BornDead p y a) fits e = stays_never e
making f mk x (Removed w but) fits e = by_test (is_among w (line x mk)) e
  where
    by_test : {A : Type 0} (b : Bool) → both (goes_if b) Stays ≡ Comes → A
    by_test true e = absurd cc
    by_test false e = stays_never e
making f mk x (Wrote y t) fits e = stays_never e
making f mk x (Acked p y) fits e = stays_never e
making f mk x (Subscribed p g) fits e = stays_never e
making f mk x (Counted p) fits e = stays_never e
making f mk x (Sent p) fits e = stays_never e
making f mk x (Ended p cause) fits e = stays_never e

pub removal : (f : Facts) (mk : List Making) (x : ContextId) (y : Saying) → SayingFits f y → says_one mk x y ≡ Goes → IsRemoval f y (line x mk)
removal f mk x (Opened y g is_new p) fits e = by_test (same_context x y) e
  where
    by_test : {A : Type 0} (b : Bool) → both (comes_if b) Stays ≡ Goes → A
    by_test true e = absurd cc
    by_test false e = stays_not_goes e
removal f mk x (Made p y a) fits e = by_test (same_context x y) e
  where
    by_test : {A : Type 0} (b : Bool) → both (comes_if b) Stays ≡ Goes → A
    by_test true e = absurd cc
    by_test false e = stays_not_goes e
removal f mk x (BornDead p y a) fits e = stays_not_goes e
removal f mk x (Removed w but) fits e =
    record { gone = w; but = but; is = refl; live = fits; among = goes_when (is_among w (line x mk)) (sym (both_stays (goes_if (is_among w (line x mk)))) ∙ e) }
removal f mk x (Wrote y t) fits e = stays_not_goes e
removal f mk x (Acked p y) fits e = stays_not_goes e
removal f mk x (Subscribed p g) fits e = stays_not_goes e
removal f mk x (Counted p) fits e = stays_not_goes e
removal f mk x (Sent p) fits e = stays_not_goes e
removal f mk x (Ended p cause) fits e = stays_not_goes e

removed_goes : (mk : List Making) (w : ContextId) (but : Option ℕ) (a : ContextId) → is_among w (line a mk) ≡ true → says_one mk a (Removed w but) ≡ Goes
removed_goes mk w but a e = ap (λ b. both (goes_if b) Stays) e

-- what comes in an entry was made in it
pub creates_comes : (x : ContextId) (mk : List Making) (y : Saying) (ys : List Saying) → says_one mk x y ≡ Comes → says_create x (y ∷ ys) ≡ true
creates_comes x mk (Opened z g is_new q) ys e = ap (λ b. b || says_create x ys) (comes_when (same_context x z) (sym (both_stays (comes_if (same_context x z))) ∙ e))
creates_comes x mk (Made q z a) ys e = ap (λ b. b || says_create x ys) (comes_when (same_context x z) (sym (both_stays (comes_if (same_context x z))) ∙ e))
creates_comes x mk (Removed w but) ys e = by_test (is_among w (line x mk)) e
  where
    by_test : {A : Type 0} (b : Bool) → both (goes_if b) Stays ≡ Comes → A
    by_test true e = absurd cc
    by_test false e = stays_never e
creates_comes x mk (_) ys e = stays_never e

creates_later : (x : ContextId) (y : Saying) (ys : List Saying) → says_create x ys ≡ true → says_create x (y ∷ ys) ≡ true
creates_later x (Opened z g is_new q) ys e = by_or (same_context x z) (says_create x ys) e
  where
    by_or : (a b : Bool) → b ≡ true → (a || b) ≡ true
    by_or true b e = refl
    by_or false b e = e
creates_later x (Made q z a) ys e = by_or (same_context x z) (says_create x ys) e
  where
    by_or : (a b : Bool) → b ≡ true → (a || b) ≡ true
    by_or true b e = refl
    by_or false b e = e
creates_later x (_) ys e = e

pub comes_created : (x : ContextId) (mk : List Making) (ys : List Saying) → says_do x (line x mk) ys ≡ Comes → says_create x ys ≡ true
comes_created x mk [] e = stays_never e
comes_created x mk (y ∷ ys) e = by_one (both_comes (says_one mk x y) (says_do x (line x mk) ys) (sym (says_more mk x y ys) ∙ e)) (comes_created x mk ys)
  where
    by_one : ((says_one mk x y ≡ Comes) × (says_do x (line x mk) ys ≡ Stays)) ⊎ (says_do x (line x mk) ys ≡ Comes) → (says_do x (line x mk) ys ≡ Comes → says_create x ys ≡ true) → says_create x (y ∷ ys) ≡ true
    by_one (inl now) rest = creates_comes x mk y ys now.0
    by_one (inr before) rest = creates_later x y ys (rest before)

-- ---- an entry

module _ (c : Config) (mk : List Making) (l : Lined mk) (old : List Saying) (ft : FactsTies c.tabs mk (asked c.tabs old)) where
  -- these are said of makings that are told, and fit
  pub record Saids (ys : List Saying) : Type 0 where
    pub told : AllByRecursion (IsToldBy mk) (makings_said ys)
    pub fits : FitsOver c old ys

  pub saids_before : (y : Saying) (ys : List Saying) → Saids (y ∷ ys) → Saids ys
  saids_before y ys s = record { told = rest y s.told; fits = s.fits.1 }
    where
      rest : (y : Saying) → AllByRecursion (IsToldBy mk) (makings_said (y ∷ ys)) → AllByRecursion (IsToldBy mk) (makings_said ys)
      rest (Opened x g is_new q) all = all.1
      rest (Made q x a) all = all.1
      rest (BornDead q x a) all = all.1
      rest (_) all = all

  pub facts_behind : (ys : List Saying) → Saids ys → FactsTies c.tabs mk (asked c.tabs (ys ++ old))
  facts_behind ys s = facts_all c.tabs mk l c refl old ys s.told s.fits ft

  module _ (L : ContextId → Stage) (lt : LifeTies mk (asked c.tabs old) L) where
    pub lives_behind : (ys : List Saying) → Saids ys → LifeTies mk (asked c.tabs (ys ++ old)) (λ z. moved (says_do z (line z mk) ys) (L z))
    lives_behind ys s = life_all c.tabs mk l c refl old L ys s.told s.fits ft lt

    told_above : (y : Saying) (ys : List Saying) (q : ℕ) (x a : ContextId) → Saids (y ∷ ys) → y ≡ Made q x a → above_in mk x ≡ Some a
    told_above y ys q x a s is = go (subst (λ z. AllByRecursion (IsToldBy mk) (makings_said (z ∷ ys))) is s.told)
      where
        go : AllByRecursion (IsToldBy mk) (makings_said (Made q x a ∷ ys)) → above_in mk x ≡ Some a
        go all = all.0

    -- what comes was coming
    pub comes_new : (x : ContextId) (ys : List Saying) → Saids ys → says_do x (line x mk) ys ≡ Comes → L x ≡ Coming
    comes_new x [] s e = stays_never e
    comes_new x (y ∷ ys) s e = by_one (both_comes (says_one mk x y) (says_do x (line x mk) ys) (sym (says_more mk x y ys) ∙ e)) (comes_new x ys (saids_before y ys s))
      where
        by_making : IsMaking (asked c.tabs (ys ++ old)) y x → moved (says_do x (line x mk) ys) (L x) ≡ Coming
        by_making (AsFrame maker below is fits) =
            was_coming c.tabs mk l (asked c.tabs (ys ++ old)) (λ z. moved (says_do z (line z mk) ys) (L z)) x below (lives_behind ys (saids_before y ys s)) fits.new
            (told_above y ys maker x below s is) fits.live
        by_making (AsTab owner fits) =
            top_was_coming c.tabs mk l (asked c.tabs (ys ++ old)) (λ z. moved (says_do z (line z mk) ys) (L z)) x (lives_behind ys (saids_before y ys s))
            (opened_new c.tabs mk (asked c.tabs (ys ++ old)) x owner (facts_behind ys (saids_before y ys s)) fits) (opened_top mk (asked c.tabs (ys ++ old)) x owner l fits)

        by_one : ((says_one mk x y ≡ Comes) × (says_do x (line x mk) ys ≡ Stays)) ⊎ (says_do x (line x mk) ys ≡ Comes) → (says_do x (line x mk) ys ≡ Comes → L x ≡ Coming) → L x ≡ Coming
        by_one (inr before) rest = rest before
        by_one (inl now) rest = sym (ap (λ d. moved d (L x)) now.1) ∙ by_making (making (asked c.tabs (ys ++ old)) mk x y s.fits.0 now.0)

    -- what goes unmade goes with the one above
    pub goes_along : (x : ContextId) (ys : List Saying) → Saids ys → says_create x ys ≡ false → says_do x (line x mk) ys ≡ Goes → L x ≡ Coming
        → (a : ContextId) × (above_in mk x ≡ Some a) × (says_do a (line a mk) ys ≡ Goes)
    goes_along x [] s unmade e new = stays_not_goes e
    goes_along x (y ∷ ys) s unmade e new = by_one (both_goes (says_one mk x y) (says_do x (line x mk) ys) (sym (says_more mk x y ys) ∙ e)) (goes_along x ys (saids_before y ys s) (unmade_before y unmade))
      where
        right_false : (u v : Bool) → (u || v) ≡ false → v ≡ false
        right_false true v e = absurd cc
        right_false false v e = e

        unmade_before : (y : Saying) → says_create x (y ∷ ys) ≡ false → says_create x ys ≡ false
        unmade_before (Opened z g is_new q) e = right_false (same_context x z) (says_create x ys) e
        unmade_before (Made q z a) e = right_false (same_context x z) (says_create x ys) e
        unmade_before (BornDead q z a) e = e
        unmade_before (_) e = e

        -- a context that wasn't made in this entry isn't live
        still_dead : (asked c.tabs (ys ++ old)).contexts.live x ≡ true → says_do x (line x mk) ys ≡ Comes
        still_dead live = by_effect (says_do x (line x mk) ys) refl
          where
            held : is_held (moved (says_do x (line x mk) ys) (L x)) ≡ true
            held = (lives_behind ys (saids_before y ys s)).live x ∙ live

            by_effect : (d : Effect) → says_do x (line x mk) ys ≡ d → says_do x (line x mk) ys ≡ Comes
            by_effect Comes is = is
            by_effect Stays is = true_false (is_held (moved (says_do x (line x mk) ys) (L x))) held (ap (λ d. is_held (moved d (L x))) is ∙ ap is_held new)
            by_effect Goes is = true_false (is_held (moved (says_do x (line x mk) ys) (L x))) held (ap (λ d. is_held (moved d (L x))) is)

        by_line : (r : IsRemoval (asked c.tabs (ys ++ old)) y (line x mk)) → (r.gone ≡ x) ⊎ ((a : ContextId) × (above_in mk x ≡ Some a) × (is_among r.gone (line a mk) ≡ true))
            → (a : ContextId) × (above_in mk x ≡ Some a) × (says_do a (line a mk) (y ∷ ys) ≡ Goes)
        by_line r (inl is) = true_false (says_create x ys) (comes_created x mk ys (still_dead (subst (λ z. (asked c.tabs (ys ++ old)).contexts.live z ≡ true) is r.live))) (unmade_before y unmade)
        by_line r (inr (a, up, more)) = (
          a,
          up,
          says_more mk a y ys ∙ ap (λ d. both d (says_do a (line a mk) ys)) (ap (says_one mk a) r.is ∙ removed_goes mk r.gone r.but a more),
        )

        by_one : (says_one mk x y ≡ Goes) ⊎ (says_do x (line x mk) ys ≡ Goes)
            → (says_do x (line x mk) ys ≡ Goes → L x ≡ Coming → (a : ContextId) × (above_in mk x ≡ Some a) × (says_do a (line a mk) ys ≡ Goes))
            → (a : ContextId) × (above_in mk x ≡ Some a) × (says_do a (line a mk) (y ∷ ys) ≡ Goes)
        by_one (inl now) rest = let r : IsRemoval (asked c.tabs (ys ++ old)) y (line x mk) = removal (asked c.tabs (ys ++ old)) mk x y s.fits.0 now in by_line r (in_line mk l r.gone x r.among)
        by_one (inr before) rest = more (rest before new)
          where
            more : (a : ContextId) × (above_in mk x ≡ Some a) × (says_do a (line a mk) ys ≡ Goes) → (a : ContextId) × (above_in mk x ≡ Some a) × (says_do a (line a mk) (y ∷ ys) ≡ Goes)
            more (a, up, goes) = (a, up, says_more mk a y ys ∙ goes_later (says_one mk a y) (says_do a (line a mk) ys) goes)
