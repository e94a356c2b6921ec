-- The stage of a context: what waits leads from the one that the process is in to the one that the parent serves.
use Rattle.std.proofs.Common.{◌≡◌, ℕ, ◌+◌, ◌<◌, Bool, true, false, Option, None, Some, List, [], ◌∷◌, ◌++◌, refl, ap, sym, ◌∙◌, arith}
use Rattle.traces.specs.Event.{Bundle}
use Rattle.traces.specs.Event.Event.{Writes, Sends, Takes, Accepts, Reverts, Changes, Does, Ends}
use Rattle.traces.specs.Links.{hears, bundles_waiting, is_ended}
use Rattle.traces.specs.Field.{Content, Trace}
use Rattle.traces.specs.Field.Content.{Nothing, Gives, Begins, Removes, Leaves}
use Rattle.traces.specs.Words.{Start, Stage, or_else, value, value_at, after, stage, stage_behind, stage_served, newest, number_after, while_held}
use Rattle.traces.specs.Words.Stage.{Coming, Held, Gone}
use Rattle.traces.specs.Replay.{is_obsolete, shown_after_take, shown_after_write, replay}
use Rattle.traces.specs.Rules.{Flows, Fits, Own, Untouched}
use Rattle.std.specs.Prelude.{nat_lt}
use Rattle.traces.proofs.Waits.{sent_waits, taken_leaves}
use Rattle.traces.proofs.Entries.{same_either}

behind_push : {V : Type 0} (s : Stage) (d : Bundle (Content V)) (ds : List (Bundle (Content V))) → stage_behind s (ds ++ d ∷ []) ≡ after d.content (stage_behind s ds)
behind_push s d [] = refl
behind_push s d (x ∷ ds) = behind_push (after x.content s) d ds

-- while the process wasn't ended, what waits leads to the stage that the parent serves
pub along : {V : Type 0} (s : Stage) (h : Trace V) → Flows h → is_ended h ≡ false → stage_behind (stage s h) (bundles_waiting h) ≡ stage_served s h
along s [] f live = refl
along s (Sends k u c ∷ h) f live =
    ap (stage_behind (stage s h)) (sent_waits (record { entry = k; epoch = hears h; content = c }) h f.1)
    ∙ behind_push (stage s h) (record { entry = k; epoch = hears h; content = c }) (bundles_waiting h) ∙ ap (after c) (along s h f.1 live)
along s (Reverts k w c ∷ h) f live =
    ap (stage_behind (stage s h)) (sent_waits (record { entry = k; epoch = hears h + 1; content = c }) h f.1)
    ∙ behind_push (stage s h) (record { entry = k; epoch = hears h + 1; content = c }) (bundles_waiting h) ∙ ap (after c) (along s h f.1 live)
along s (Takes d ∷ h) f live =
    ap (stage_behind (after d.content (stage s h))) (taken_leaves d h f.0) ∙ sym (ap (stage_behind (stage s h)) f.0.is) ∙ along s h f.1 live
along s (Does c ∷ h) f live = rw live refl
along s (Ends ∷ h) f live = absurd cc
along s (_ ∷ h) f live = along s h f.1 live

-- behind its end a process is served nothing
ended_gone : {V : Type 0} (s : Stage) (h : Trace V) → Flows h → is_ended h ≡ true → stage_served s h ≡ Gone
ended_gone s [] f e = absurd cc
ended_gone s (Sends k u c ∷ h) f e = let live : is_ended h ≡ false = f.0 in absurd cc
ended_gone s (Reverts k w c ∷ h) f e = let live : is_ended h ≡ false = f.0.alive in absurd cc
ended_gone s (Does c ∷ h) f e = rw e refl
ended_gone s (Ends ∷ h) f e = refl
ended_gone s (_ ∷ h) f e = ended_gone s h f.1 e

-- what is gone stays so
pub gone_after : {V : Type 0} (c : Content V) (s : Stage) → s ≡ Gone → after c s ≡ Gone
gone_after (Begins v) Gone e = refl
gone_after Removes s e = refl
gone_after Leaves Gone e = refl
gone_after (Begins v) s e = absurd cc
gone_after Leaves s e = absurd cc
gone_after _ s e = e

-- so what isn't gone wasn't before
pub alive_before : {V : Type 0} (c : Content V) (s : Stage) → (after c s ≡ Gone → ⊥) → s ≡ Gone → ⊥
alive_before c s ne e = ne (gone_after c s e)

-- a context that hasn't come has no number
come_unwritten : {V : Type 0} (c : Content V) (s : Stage) (n : ℕ) → (s ≡ Coming → n ≡ 0) → after c s ≡ Coming → number_after c n ≡ 0
come_unwritten Nothing s n f e = f e
come_unwritten (Gives v) s n f e = f e
come_unwritten (Begins v) Coming n f e = absurd cc
come_unwritten (Begins v) Held n f e = absurd cc
come_unwritten (Begins v) Gone n f e = absurd cc
come_unwritten Removes s n f e = absurd cc
come_unwritten Leaves s n f e = refl

did_unwritten : {V : Type 0} (start : Start V) (c : Content V) (h : Trace V) → Own start c h → (stage start.stage h ≡ Coming → newest h ≡ 0) → after c (stage start.stage h) ≡ Coming → newest h ≡ 0
did_unwritten start Nothing h t f e = f e
did_unwritten start (Gives v) h t f e = absurd t
did_unwritten start (Begins v) h t f e = f t.unheld
did_unwritten start Removes h t f e = absurd cc
did_unwritten start Leaves h t f e = absurd t

pub coming_unwritten : {V : Type 0} (start : Start V) (h : Trace V) → Fits start h → stage start.stage h ≡ Coming → newest h ≡ 0
coming_unwritten start [] t e = refl
coming_unwritten start (Writes None ∷ h) t e = coming_unwritten start h t.1 e
coming_unwritten start (Writes (Some v) ∷ h) t e = let held : stage start.stage h ≡ Held = t.0 in absurd cc
coming_unwritten start (Takes d ∷ h) t e = come_unwritten d.content (stage start.stage h) (newest h) (coming_unwritten start h t.1) e
coming_unwritten start (Does c ∷ h) t e = did_unwritten start c h t.0 (coming_unwritten start h t.1) e
coming_unwritten start (_ ∷ h) t e = coming_unwritten start h t.1 e

-- a field with a number is of a context that is held or gone
pub written_held_or_gone : {V : Type 0} (start : Start V) (h : Trace V) → Fits start h → 0 < newest h → (stage start.stage h ≡ Gone → ⊥) → stage start.stage h ≡ Held
written_held_or_gone start h t l ne = go (stage start.stage h) refl
  where
    go : (s : Stage) → stage start.stage h ≡ s → s ≡ Held
    go Held e = refl
    go Gone e = absurd (ne e)
    go Coming e = absurd (omega (arith, l, coming_unwritten start h t e))

-- while no entry had a value for the field, the parent's value is the initial one
pub untouched_at : {V : Type 0} (initial : V) (k : ℕ) (h : Trace V) → Untouched h → value_at initial k h ≡ initial
untouched_at initial k [] u = refl
untouched_at initial k (Sends j w c ∷ h) u = rw u.0 (same_either (nat_lt k j) _ ∙ untouched_at initial k h u.1)
untouched_at initial k (Accepts j w ∷ h) u = rw u.0 (same_either (nat_lt k j) _ ∙ untouched_at initial k h u.1)
untouched_at initial k (Changes j w ∷ h) u = rw u.0 (same_either (nat_lt k j) _ ∙ untouched_at initial k h u.1)
untouched_at initial k (_ ∷ h) u = untouched_at initial k h u

pub untouched_value : {V : Type 0} (initial : V) (h : Trace V) → Untouched h → value initial h ≡ initial
untouched_value initial [] u = refl
untouched_value initial (Sends k w c ∷ h) u = rw u.0 (untouched_value initial h u.1)
untouched_value initial (Accepts k w ∷ h) u = rw u.0 (untouched_value initial h u.1)
untouched_value initial (Changes k w ∷ h) u = rw u.0 (untouched_value initial h u.1)
untouched_value initial (_ ∷ h) u = untouched_value initial h u

-- the value that is kept after a bundle, whether the context is held or not
abbrev pub over : {V : Type 0} → Content V → Bool → Stage → V → V
over (Gives v) false s x = v
over (Begins v) obsolete Coming x = v
over _ obsolete s x = x

pub written_held : {V : Type 0} (w : Option V) (s : Stage) (x : V) → shown_after_write w (while_held s x) ≡ while_held s (or_else w x)
written_held w Coming x = refl
written_held w Held x = refl
written_held w Gone x = refl

pub taken_held : {V : Type 0} (c : Content V) (b : Bool) (s : Stage) (x : V) → shown_after_take c b s (while_held s x) ≡ while_held (after c s) (over c b s x)
taken_held Nothing b s x = refl
taken_held (Gives v) true s x = refl
taken_held (Gives v) false Coming x = refl
taken_held (Gives v) false Held x = refl
taken_held (Gives v) false Gone x = refl
taken_held (Begins v) b Coming x = refl
taken_held (Begins v) b Held x = refl
taken_held (Begins v) b Gone x = refl
taken_held Removes b s x = refl
taken_held Leaves b Coming x = refl
taken_held Leaves b Held x = refl
taken_held Leaves b Gone x = refl

-- the value that the process keeps, whether it has the context or not
abbrev pub kept : {V : Type 0} → Start V → Trace V → V
kept start [] = start.initial
kept start (Writes w ∷ h) = or_else w (kept start h)
kept start (Takes d ∷ h) = over d.content (is_obsolete (newest h) d) (stage start.stage h) (kept start h)
kept start (Does c ∷ h) = over c false (stage start.stage h) (kept start h)
kept start (_ ∷ h) = kept start h

-- the replay shows a value exactly while the context is held
pub shows_kept : {V : Type 0} (start : Start V) (h : Trace V) → replay start h ≡ while_held (stage start.stage h) (kept start h)
shows_kept start [] = refl
shows_kept start (Writes w ∷ h) = ap (shown_after_write w) (shows_kept start h) ∙ written_held w (stage start.stage h) (kept start h)
shows_kept start (Takes d ∷ h) =
    ap (shown_after_take d.content (is_obsolete (newest h) d) (stage start.stage h)) (shows_kept start h) ∙ taken_held d.content (is_obsolete (newest h) d) (stage start.stage h) (kept start h)
shows_kept start (Does c ∷ h) = ap (shown_after_take c false (stage start.stage h)) (shows_kept start h) ∙ taken_held c false (stage start.stage h) (kept start h)
shows_kept start (_ ∷ h) = shows_kept start h
