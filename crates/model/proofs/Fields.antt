-- All that holds of a field in a process: at the start, behind every entry, and so what is shown.
use Rattle.std.proofs.Common.{◌≡◌, ℕ, List, [], ◌∷◌, ◌++◌}
use Rattle.std.specs.List.{AllByRecursion}
use Rattle.fission_ids.specs.declared.context.ContextId.{ContextId}
use Rattle.field_table.specs.declared.field.Field.{Field}
use Rattle.wire_msgs.specs.declared.config.Config.{Config}
use Rattle.traces.specs.Event.{Bundle}
use Rattle.traces.specs.Laws.{Projected}
use Rattle.traces.specs.Links.{bundles_waiting}
use Rattle.traces.specs.Rules.{Flows, Rises, Keeps}
use Rattle.traces.proofs.Projection.{projection}
use Rattle.field_table.specs.declared.value.Value.{Value}
use Rattle.wire_msgs.specs.declared.bundle.DownBundle.{DownBundle}
use Rattle.model.specs.Journal.{Journal}
use Rattle.model.specs.Lines.{Making, makings}
use Rattle.model.specs.Moments.{Moment, Written, events_of, seen_now, moments_of}
use Rattle.model.specs.View.{begin, view}
use Rattle.model.specs.View as views
use Rattle.model.proofs.DownFits.{DownFits}
use Rattle.model.proofs.Entry.{Entry}
use Rattle.model.proofs.FieldBefore.{FieldBefore, FieldTies}
use Rattle.model.proofs.FieldKeeps.{field_kept, field_start}
use Rattle.model.proofs.Lining.{Lined}
use Rattle.model.proofs.Numbers.{numbers_kept, numbers_start}
use Rattle.model.proofs.TreeEvents.{until_end}
use Rattle.model.proofs.TreeOwn.{TreeSeen}
use Rattle.model.proofs.Shown.{NumberTies, ShownBefore, ShownTies, shown_kept, shown_start, shows_view}
use Rattle.model.proofs.Stages.{trace_of}

pub record FieldHolds (c : Config) (p : ℕ) (mk : List Making) (x : ContextId) (fld : Field) (ms : List Moment) : Type 0 where
  pub ties : FieldTies c p mk x fld ms
  pub shown : ShownTies c p mk x fld ms

pub holds_at_start : (c : Config) (p : ℕ) (mk : List Making) (x : ContextId) (fld : Field) → FieldHolds c p mk x fld []
holds_at_start c p mk x fld = record { ties = field_start c p mk x fld; shown = shown_start c p mk x fld }

pub holds_next : (c : Config) (p : ℕ) (mk : List Making) (x : ContextId) (fld : Field) → (ms : List Moment) (m : Moment) → FieldBefore c p mk ms m → ShownBefore c p mk ms m → Entry c p ms m
    → FieldHolds c p mk x fld ms → FieldHolds c p mk x fld (m ∷ ms)
holds_next c p mk x fld ms m b a e f =
    record { ties = field_kept c p mk x fld ms m b f.ties e; shown = shown_kept c p mk x fld ms m b f.ties a f.shown e }

-- the trace keeps the rules
pub keeps_rules : (c : Config) (p : ℕ) (mk : List Making) (x : ContextId) (fld : Field) (ms : List Moment) → Flows (events_of p ms) → Rises (events_of p ms) → FieldHolds c p mk x fld ms → Keeps (begin c p x fld) (trace_of c p mk x fld (events_of p ms))
keeps_rules c p mk x fld ms flows rises f =
    let same : Projected (views.look x fld mk) (events_of p ms) = projection Written DownBundle Value (views.look x fld mk) (events_of p ms) flows rises f.ties.apart in
    record { flows = same.flows; ordered = same.ordered; fits = f.ties.fits }

-- what the process answers is its view
pub answers_view : (c : Config) (p : ℕ) (x : ContextId) (fld : Field) (j : Journal) → Flows (events_of p (moments_of c j)) → Rises (events_of p (moments_of c j)) → FieldHolds c p (makings p (moments_of c j)) x fld (moments_of c j)
    → (seen_now c p (moments_of c j)).value x fld ≡ view c p x fld j
unfolding view
answers_view c p x fld j flows rises f = shows_view c p (makings p (moments_of c j)) x fld (moments_of c j) flows rises f.ties f.shown

-- ---- all contexts together

pub record FieldsHold (c : Config) (p : ℕ) (mk : List Making) (ms : List Moment) : Type 0 where
  pub numbers : NumberTies c p ms
  pub own : (x : ContextId) (fld : Field) → FieldHolds c p mk x fld ms

pub fields_start : (c : Config) (p : ℕ) (mk : List Making) → Lined mk → FieldsHold c p mk []
fields_start c p mk l = record { numbers = numbers_start c p; own = λ x fld. holds_at_start c p mk x fld }

-- every entry keeps them, where what waits for the process can be taken and the process answers of the trees what
-- its events tell behind the entry
pub fields_kept : (c : Config) (p : ℕ) (mk : List Making) (ms : List Moment) (m : Moment) → FieldBefore c p mk ms m
    → AllByRecursion (λ (d : Bundle DownBundle). DownFits c p mk (seen_now c p ms).frames_made d.content.parts) (bundles_waiting (events_of p ms))
    → TreeSeen c p mk (seen_now c p (m ∷ ms)) (until_end (m.events p ++ events_of p ms)) → Entry c p ms m → FieldsHold c p mk ms → FieldsHold c p mk (m ∷ ms)
fields_kept c p mk ms m b downs seen_next e f = record {
  numbers = numbers_kept c p mk ms m b downs f.numbers e;
  own = λ x fld. holds_next c p mk x fld ms m b (record { downs = downs; numbers = f.numbers; seen_next = seen_next }) e (f.own x fld);
}

-- every trace keeps the rules
pub all_keep : (c : Config) (p : ℕ) (mk : List Making) (ms : List Moment) → Flows (events_of p ms) → Rises (events_of p ms) → FieldsHold c p mk ms → (x : ContextId) (fld : Field) → Keeps (begin c p x fld) (trace_of c p mk x fld (events_of p ms))
all_keep c p mk ms flows rises f x fld = keeps_rules c p mk x fld ms flows rises (f.own x fld)

-- the process answers the view of every field
pub all_views : (c : Config) (p : ℕ) (x : ContextId) (fld : Field) (j : Journal) → Flows (events_of p (moments_of c j)) → Rises (events_of p (moments_of c j)) → FieldsHold c p (makings p (moments_of c j)) (moments_of c j)
    → (seen_now c p (moments_of c j)).value x fld ≡ view c p x fld j
all_views c p x fld j flows rises f = answers_view c p x fld j flows rises (f.own x fld)
