-- The worked runs compute. That a trace keeps the rules is read off event by event.
use Rattle.std.proofs.Common.{◌≡◌, ℕ, ◌<◌, ◌≤◌, None, Some, List, ◌∷◌, reverse, refl, arith}
use Rattle.traces.specs.Field.{FieldEvent, Trace}
use Rattle.traces.specs.Links.{last_sending, now}
use Rattle.traces.specs.Words.{Start, stage, view, while_held}
use Rattle.traces.specs.Replay.{replay}
use Rattle.traces.specs.Rules.{Flows, Ordered, Fits, IsFirst, SentInOrder}
use Rattle.traces.specs.Runs.{Shows, Hides, WorkedRuns, ThreeMoments, Crossing, TwoWriters, PartlyObsolete, Revert, RevertWrittenOver, LateSubscriber}
use Rattle.traces.specs.Runs.{FrameMade, ComingPassedOver, LeftAndBack}

firstly : {X : Type 0} (x : X) (xs : List X) → IsFirst x (x ∷ xs)
firstly x xs = record { rest = xs; is = refl }

-- a bundle that comes with a change, and one that comes with none
changing : {k v : ℕ} {h : Trace ℕ} → last_sending h < k → now h < k → SentInOrder k (Some v) h
changing l n = record { once = l; after = omega arith; changes = λ e. n }

plain : {k : ℕ} {h : Trace ℕ} → last_sending h < k → now h ≤ k → SentInOrder k None h
plain l n = record { once = l; after = n; changes = λ e. cc }

shows : {start : Start ℕ} {trace : List (FieldEvent ℕ)} {v : ℕ} → Flows (reverse trace) → Ordered (reverse trace) → Fits start (reverse trace)
    → replay start (reverse trace) ≡ Some v → while_held (stage start.stage (reverse trace)) (view start (reverse trace)) ≡ Some v → Shows start trace v
shows flows ordered fits shown view_shown = record { keeps = record { flows = flows; ordered = ordered; fits = fits }; shown = shown; view_shown = view_shown }

hides : {start : Start ℕ} {trace : List (FieldEvent ℕ)} → Flows (reverse trace) → Ordered (reverse trace) → Fits start (reverse trace)
    → replay start (reverse trace) ≡ None → while_held (stage start.stage (reverse trace)) (view start (reverse trace)) ≡ None → Hides start trace
hides flows ordered fits shown view_shown = record { keeps = record { flows = flows; ordered = ordered; fits = fits }; shown = shown; view_shown = view_shown }

pub three_moments : ThreeMoments
three_moments = record {
  writer_before = shows (tt, tt) (tt, tt) (refl, tt) refl refl;
  parent_before = refl;
  writer_heard = shows (firstly _ _, (tt, tt)) (omega arith, (tt, tt)) (λ ne. record { serves = refl; since = omega arith; stays = tt }, (refl, tt)) refl refl;
  parent_heard = refl;
  reader_before = shows (refl, tt) (changing (omega arith) (omega arith), tt) (λ ne. (refl, refl), tt) refl refl;
  reader_took = shows (firstly _ _, (refl, tt)) (tt, (changing (omega arith) (omega arith), tt)) (tt, (λ ne. (refl, refl), tt)) refl refl;
}

pub crossing : Crossing
crossing = record {
  writer = shows (firstly _ _, (tt, (refl, tt))) (tt, (tt, (changing (omega arith) (omega arith), tt))) (tt, (refl, (λ ne. (refl, refl), tt))) refl refl;
  writer_heard = shows (firstly _ _, (firstly _ _, (tt, (refl, tt)))) (omega arith, (tt, (tt, (changing (omega arith) (omega arith), tt)))) (λ ne. record { serves = refl; since = omega arith; stays = tt }, (tt, (refl, (λ ne. (refl, refl), tt)))) refl refl;
  reader = shows (firstly _ _, (firstly _ _, (refl, (refl, tt)))) (tt, (tt, (changing (omega arith) (omega arith), (changing (omega arith) (omega arith), tt)))) (tt, (tt, (λ ne. (refl, refl), (λ ne. (refl, refl), tt)))) refl refl;
}

pub two_writers : TwoWriters
two_writers = record {
  heard_last = shows (firstly _ _, (firstly _ _, (refl, (tt, tt)))) (tt, (omega arith, (changing (omega arith) (omega arith), (tt, tt)))) (tt, (λ ne. record { serves = refl; since = omega arith; stays = (tt, tt) }, (λ ne. (refl, refl), (refl, tt)))) refl refl;
  heard_first = shows (firstly _ _, (refl, (firstly _ _, (tt, tt)))) (tt, (changing (omega arith) (omega arith), (omega arith, (tt, tt)))) (tt, (λ ne. (refl, refl), (λ ne. record { serves = refl; since = omega arith; stays = tt }, (refl, tt)))) refl refl;
}

pub partly_obsolete : PartlyObsolete
partly_obsolete = record {
  mode = shows (firstly _ _, (tt, (refl, tt))) (tt, (tt, (changing (omega arith) (omega arith), tt))) (tt, (refl, (λ ne. (refl, refl), tt))) refl refl;
  agent = shows (firstly _ _, (tt, (refl, tt))) (tt, (tt, (changing (omega arith) (omega arith), tt))) (tt, (tt, (λ ne. (refl, refl), tt))) refl refl;
}

pub revert : Revert
revert = record {
  before = shows (record { first = firstly _ _; alive = refl }, (refl, (tt, tt))) (omega arith, (plain (omega arith) (omega arith), (tt, tt))) (record { of_write = refl; back = refl; judged = λ ne. record { serves = refl; since = omega arith; stays = (tt, tt) } }, (λ ne. tt, (refl, tt))) refl refl;
  took_one = shows (firstly _ _, (record { first = firstly _ _; alive = refl }, (refl, (tt, tt)))) (tt, (omega arith, (plain (omega arith) (omega arith), (tt, tt)))) (tt, (record { of_write = refl; back = refl; judged = λ ne. record { serves = refl; since = omega arith; stays = (tt, tt) } }, (λ ne. tt, (refl, tt)))) refl refl;
  took_both = shows (firstly _ _, (firstly _ _, (record { first = firstly _ _; alive = refl }, (refl, (tt, tt))))) (tt, (tt, (omega arith, (plain (omega arith) (omega arith), (tt, tt))))) (tt, (tt, (record { of_write = refl; back = refl; judged = λ ne. record { serves = refl; since = omega arith; stays = (tt, tt) } }, (λ ne. tt, (refl, tt))))) refl refl;
}

pub revert_written_over : RevertWrittenOver
revert_written_over = record {
  first_revert = shows (firstly _ _, (firstly _ _, (tt, (record { first = firstly _ _; alive = refl }, (refl, (tt, tt)))))) (tt, (tt, (tt, (omega arith, (plain (omega arith) (omega arith), (tt, tt)))))) (tt, (tt, (refl, (record { of_write = refl; back = refl; judged = λ ne. record { serves = refl; since = omega arith; stays = (tt, tt) } }, (λ ne. tt, (refl, tt)))))) refl refl;
  second_revert = shows (firstly _ _, (record { first = firstly _ _; alive = refl }, (firstly _ _, (firstly _ _, (tt, (record { first = firstly _ _; alive = refl }, (refl, (tt, tt)))))))) (tt, (omega arith, (tt, (tt, (tt, (omega arith, (plain (omega arith) (omega arith), (tt, tt)))))))) (tt, (record { of_write = refl; back = refl; judged = λ ne. record { serves = refl; since = omega arith; stays = tt } }, (tt, (tt, (refl, (record { of_write = refl; back = refl; judged = λ ne. record { serves = refl; since = omega arith; stays = (tt, tt) } }, (λ ne. tt, (refl, tt)))))))) refl refl;
}

pub late_subscriber : LateSubscriber
late_subscriber = record {
  not_yet = refl;
  muted = shows (firstly _ _, (refl, (refl, (tt, tt)))) (tt, (plain (omega arith) (omega arith), (plain (omega arith) (omega arith), (omega arith, tt)))) (tt, (λ ne. tt, (λ ne. (refl, refl), (λ ne. λ e. cc, tt)))) refl refl;
  mode_at_first = shows (firstly _ _, (refl, (refl, (tt, tt)))) (tt, (changing (omega arith) (omega arith), (plain (omega arith) (omega arith), (omega arith, tt)))) (tt, (λ ne. (refl, refl), (λ ne. (refl, refl), (λ ne. tt, tt)))) refl refl;
  mode_then = shows (firstly _ _, (firstly _ _, (refl, (refl, (tt, tt))))) (tt, (tt, (changing (omega arith) (omega arith), (plain (omega arith) (omega arith), (omega arith, tt))))) (tt, (tt, (λ ne. (refl, refl), (λ ne. (refl, refl), (λ ne. tt, tt))))) refl refl;
}

pub frame_made : FrameMade
frame_made = record {
  made = shows (tt, tt) (tt, tt) (record { initially = refl; unheld = refl; untouched = tt; no_news = tt }, tt) refl refl;
  written = shows (tt, (tt, tt)) (tt, (tt, tt)) (refl, (record { initially = refl; unheld = refl; untouched = tt; no_news = tt }, tt)) refl refl;
  heard = shows (firstly _ _, (tt, (tt, (tt, tt)))) (omega arith, (omega arith, (tt, (tt, tt)))) (λ ne. record { serves = refl; since = omega arith; stays = tt }, (λ ne. tt, (refl, (record { initially = refl; unheld = refl; untouched = tt; no_news = tt }, tt)))) refl refl;
  others_taken = shows (firstly _ _, (refl, (firstly _ _, (tt, (tt, (tt, tt)))))) (tt, (changing (omega arith) (omega arith), (omega arith, (omega arith, (tt, (tt, tt)))))) (tt, (λ ne. (refl, refl), (λ ne. record { serves = refl; since = omega arith; stays = tt }, (λ ne. tt, (refl, (record { initially = refl; unheld = refl; untouched = tt; no_news = tt }, tt)))))) refl refl;
}

pub coming_passed_over : ComingPassedOver
coming_passed_over = record {
  waits = hides (tt, (refl, (tt, tt))) (tt, (plain (omega arith) (omega arith), (omega arith, tt))) (tt, (λ ne. (refl, refl), (λ ne. λ e. cc, tt))) refl refl;
  passed_over = hides (firstly _ _, (tt, (refl, (tt, tt)))) (tt, (tt, (plain (omega arith) (omega arith), (omega arith, tt)))) (tt, (tt, (λ ne. (refl, refl), (λ ne. λ e. cc, tt)))) refl refl;
}

pub left_and_back : LeftAndBack
left_and_back = record {
  left = hides (firstly _ _, (refl, (refl, (refl, (tt, tt))))) (tt, (changing (omega arith) (omega arith), (plain (omega arith) (omega arith), (plain (omega arith) (omega arith), (tt, tt))))) (tt, (λ ne. (refl, refl), (λ ne. (refl, refl), (λ ne. tt, (refl, tt))))) refl refl;
  back = shows (firstly _ _, (firstly _ _, (refl, (refl, (refl, (tt, tt)))))) (tt, (tt, (changing (omega arith) (omega arith), (plain (omega arith) (omega arith), (plain (omega arith) (omega arith), (tt, tt)))))) (tt, (tt, (λ ne. (refl, refl), (λ ne. (refl, refl), (λ ne. tt, (refl, tt)))))) refl refl;
  followed = shows (firstly _ _, (firstly _ _, (firstly _ _, (refl, (refl, (refl, (tt, tt))))))) (tt, (tt, (tt, (changing (omega arith) (omega arith), (plain (omega arith) (omega arith), (plain (omega arith) (omega arith), (tt, tt))))))) (tt, (tt, (tt, (λ ne. (refl, refl), (λ ne. (refl, refl), (λ ne. tt, (refl, tt))))))) refl refl;
  stale_ignored = shows (firstly _ _, (firstly _ _, (firstly _ _, (firstly _ _, (refl, (refl, (refl, (tt, tt)))))))) (omega arith, (tt, (tt, (tt, (changing (omega arith) (omega arith), (plain (omega arith) (omega arith), (plain (omega arith) (omega arith), (tt, tt)))))))) (λ ne. λ j. let l : 1 ≤ 0 = j.since in omega arith, (tt, (tt, (tt, (λ ne. (refl, refl), (λ ne. (refl, refl), (λ ne. tt, (refl, tt)))))))) refl refl;
  written_again = shows (tt, (firstly _ _, (firstly _ _, (firstly _ _, (firstly _ _, (refl, (refl, (refl, (tt, tt))))))))) (tt, (omega arith, (tt, (tt, (tt, (changing (omega arith) (omega arith), (plain (omega arith) (omega arith), (plain (omega arith) (omega arith), (tt, tt))))))))) (refl, (λ ne. λ j. let l : 1 ≤ 0 = j.since in omega arith, (tt, (tt, (tt, (λ ne. (refl, refl), (λ ne. (refl, refl), (λ ne. tt, (refl, tt))))))))) refl refl;
}

pub worked_runs : WorkedRuns
worked_runs = record {
  three_moments = three_moments;
  crossing = crossing;
  two_writers = two_writers;
  partly_obsolete = partly_obsolete;
  revert = revert;
  revert_written_over = revert_written_over;
  late_subscriber = late_subscriber;
  frame_made = frame_made;
  coming_passed_over = coming_passed_over;
  left_and_back = left_and_back;
}
