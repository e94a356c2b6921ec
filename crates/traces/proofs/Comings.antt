-- A context that comes by what waits comes with the parent's value.
use Rattle.std.proofs.Common.{◌≡◌, ℕ, false, Some, List, [], ◌∷◌, refl, ap, sym, subst, ◌∙◌, arith}
use Rattle.std.proofs.lemmas.Bool.{le-ltb}
use Rattle.traces.specs.Event.{Bundle}
use Rattle.traces.specs.Links.{bundles_waiting}
use Rattle.traces.specs.Field.{Content}
use Rattle.traces.specs.Field.Content.{Leaves}
use Rattle.traces.specs.Words.{Stage, value, value_at, after, stage, stage_behind, newest, number_after, while_held}
use Rattle.traces.specs.Words.Stage.{Coming, Held}
use Rattle.traces.specs.Replay.{shown_behind}
use Rattle.traces.specs.Laws.{ComingsBringTheValue}
use Rattle.traces.proofs.Stages.{along, coming_unwritten, over, taken_held, kept}
use Rattle.traces.proofs.Follows.{Follows, End, follows}

-- the value that is kept behind these bundles, where none is obsolete
abbrev pub kept_behind : {V : Type 0} → Stage → V → List (Bundle (Content V)) → V
kept_behind s x [] = x
kept_behind s x (d ∷ ds) = kept_behind (after d.content s) (over d.content false s x) ds

-- it is what is shown, while the context is held
shown_kept : {V : Type 0} (s : Stage) (x : V) (ds : List (Bundle (Content V))) → shown_behind s (while_held s x) ds ≡ while_held (stage_behind s ds) (kept_behind s x ds)
shown_kept s x [] = refl
shown_kept s x (d ∷ ds) = ap (λ shown. shown_behind (after d.content s) shown ds) (taken_held d.content false s x) ∙ shown_kept (after d.content s) (over d.content false s x) ds

-- where there is no number, none comes
still_none : {V : Type 0} (c : Content V) (m : ℕ) → m ≡ 0 → number_after c m ≡ 0
still_none Leaves m none = refl
still_none _ m none = none

-- so what follows, follows from what is kept
follows_kept : {V : Type 0} (at : ℕ → V) (last : Stage → ℕ → V → Type 0) (s : Stage) (m : ℕ) (x : V) (ds : List (Bundle (Content V))) → m ≡ 0 → Follows at last s m x ds
    → last (stage_behind s ds) 0 (kept_behind s x ds)
follows_kept at last s m x [] none f = subst (λ n. last s n x) none f
follows_kept at last s m x (d ∷ ds) none f =
    follows_kept at last (after d.content s) (number_after d.content m) (over d.content false s x) ds (still_none d.content m none)
    (subst (λ b. Follows at last (after d.content s) (number_after d.content m) (over d.content b s x) ds) (le-ltb d.epoch m (omega (arith, none))) f.1)

pub bring_value : (V : Type 0) → ComingsBringTheValue V
bring_value V start h k live coming served =
    shown_kept Coming (kept start h) (bundles_waiting h) ∙ ap (λ s. while_held s (kept_behind Coming (kept start h) (bundles_waiting h))) held
    ∙ ap Some (subst (λ s. kept_behind s (kept start h) (bundles_waiting h) ≡ value start.initial h) coming (last live leads (omega arith)))
  where
    leads : stage_behind (stage start.stage h) (bundles_waiting h) ≡ Held
    leads = along start.stage h k.flows live ∙ served

    held : stage_behind Coming (bundles_waiting h) ≡ Held
    held = ap (λ s. stage_behind s (bundles_waiting h)) (sym coming) ∙ leads

    last : End start h (stage_behind (stage start.stage h) (bundles_waiting h)) 0 (kept_behind (stage start.stage h) (kept start h) (bundles_waiting h))
    last = follows_kept (λ j. value_at start.initial j h) (End start h) (stage start.stage h) (newest h) (kept start h) (bundles_waiting h)
        (coming_unwritten start h k.fits coming) (follows start h k.flows k.ordered k.fits)
