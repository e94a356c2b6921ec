-- The events of a process as the trees see them: up to its end all of them, and then what it does and takes itself.
use Rattle.std.proofs.Common.{◌≡◌, ◌+◌, Bool, true, false, if◌then◌else◌, List, [], ◌∷◌, ◌++◌, drop, refl, ap, ap₂, sym, ◌∙◌}
use Rattle.traces.specs.Event.Event.{Writes, Sends, Takes, Accepts, Reverts, Ignores, Changes, Does, Ends, Rests}
use Rattle.traces.specs.Links.{hears, takes, bundles_sent, bundles_waiting, writes_waiting, is_ended}
use Rattle.traces.specs.Rules.{Flow, Flows}
use Rattle.model.specs.Moments.{ProcessEvent}

-- what the process does itself
abbrev pub own_only : ProcessEvent → List ProcessEvent → List ProcessEvent
own_only (Writes w) h = Writes w ∷ h
own_only (Takes d) h = Takes d ∷ h
own_only (Does d) h = Does d ∷ h
own_only e h = h

abbrev pub all_but_end : ProcessEvent → List ProcessEvent → List ProcessEvent
all_but_end Ends h = h
all_but_end e h = e ∷ h

abbrev pub until_end : List ProcessEvent → List ProcessEvent
until_end [] = []
until_end (e ∷ h) = if is_ended h then own_only e (until_end h) else all_but_end e (until_end h)

pub never_ends : (h : List ProcessEvent) → is_ended (until_end h) ≡ false
never_ends [] = refl
never_ends (e ∷ h) = by_end (is_ended h) e (never_ends h)
  where
    by_end : (b : Bool) (e : ProcessEvent) → is_ended (until_end h) ≡ false → is_ended (if b then own_only e (until_end h) else all_but_end e (until_end h)) ≡ false
    by_end true (Writes w) rest = rest
    by_end true (Takes d) rest = rest
    by_end true (Does d) rest = rest
    by_end true (_) rest = rest
    by_end false Ends rest = rest
    by_end false (_) rest = rest

-- who isn't ended has all of its events
pub all_events : (h : List ProcessEvent) → is_ended h ≡ false → until_end h ≡ h
all_events [] runs = refl
all_events (Ends ∷ h) runs = absurd cc
all_events (Writes w ∷ h) runs = ap (λ (b : Bool). if b then Writes w ∷ until_end h else Writes w ∷ until_end h) runs ∙ ap (λ g. Writes w ∷ g) (all_events h runs)
all_events (Sends k u d ∷ h) runs = ap (λ (b : Bool). if b then until_end h else Sends k u d ∷ until_end h) runs ∙ ap (λ g. Sends k u d ∷ g) (all_events h runs)
all_events (Takes d ∷ h) runs = ap (λ (b : Bool). if b then Takes d ∷ until_end h else Takes d ∷ until_end h) runs ∙ ap (λ g. Takes d ∷ g) (all_events h runs)
all_events (Accepts k w ∷ h) runs = ap (λ (b : Bool). if b then until_end h else Accepts k w ∷ until_end h) runs ∙ ap (λ g. Accepts k w ∷ g) (all_events h runs)
all_events (Reverts k w d ∷ h) runs = ap (λ (b : Bool). if b then until_end h else Reverts k w d ∷ until_end h) runs ∙ ap (λ g. Reverts k w d ∷ g) (all_events h runs)
all_events (Ignores k w ∷ h) runs = ap (λ (b : Bool). if b then until_end h else Ignores k w ∷ until_end h) runs ∙ ap (λ g. Ignores k w ∷ g) (all_events h runs)
all_events (Changes k u ∷ h) runs = ap (λ (b : Bool). if b then until_end h else Changes k u ∷ until_end h) runs ∙ ap (λ g. Changes k u ∷ g) (all_events h runs)
all_events (Does d ∷ h) runs = ap (λ (b : Bool). if b then Does d ∷ until_end h else Does d ∷ until_end h) runs ∙ ap (λ g. Does d ∷ g) (all_events h runs)
all_events (Rests ∷ h) runs = ap (λ (b : Bool). if b then until_end h else Rests ∷ until_end h) runs ∙ ap (λ g. Rests ∷ g) (all_events h runs)

-- what is sent and taken is the same
sent_same : (h : List ProcessEvent) → Flows h → bundles_sent (until_end h) ≡ bundles_sent h
sent_same [] f = refl
sent_same (e ∷ h) f = by_end (is_ended h) refl e f.0 (sent_same h f.1)
  where
    same_hears : is_ended h ≡ false → hears (until_end h) ≡ hears h
    same_hears runs = ap hears (all_events h runs)

    by_end : (b : Bool) → is_ended h ≡ b → (e : ProcessEvent) → Flow e h → bundles_sent (until_end h) ≡ bundles_sent h
        → bundles_sent (if b then own_only e (until_end h) else all_but_end e (until_end h)) ≡ bundles_sent (e ∷ h)
    by_end true is (Sends k u d) flow rest = let two : true ≡ false = sym is ∙ flow in absurd cc
    by_end true is (Reverts k w d) flow rest = let two : true ≡ false = sym is ∙ flow.alive in absurd cc
    by_end true is (Writes w) flow rest = rest
    by_end true is (Takes d) flow rest = rest
    by_end true is (Does d) flow rest = rest
    by_end true is (Accepts k w) flow rest = rest
    by_end true is (Ignores k w) flow rest = rest
    by_end true is (Changes k u) flow rest = rest
    by_end true is Ends flow rest = rest
    by_end true is Rests flow rest = rest
    by_end false is (Sends k u d) flow rest = ap₂ (λ ds n. ds ++ record { entry = k; epoch = n; content = d } ∷ []) rest (same_hears is)
    by_end false is (Reverts k w d) flow rest = ap₂ (λ ds n. ds ++ record { entry = k; epoch = n + 1; content = d } ∷ []) rest (same_hears is)
    by_end false is (Writes w) flow rest = rest
    by_end false is (Takes d) flow rest = rest
    by_end false is (Does d) flow rest = rest
    by_end false is (Accepts k w) flow rest = rest
    by_end false is (Ignores k w) flow rest = rest
    by_end false is (Changes k u) flow rest = rest
    by_end false is Ends flow rest = rest
    by_end false is Rests flow rest = rest

takes_same : (h : List ProcessEvent) → takes (until_end h) ≡ takes h
takes_same [] = refl
takes_same (e ∷ h) = by_end (is_ended h) e (takes_same h)
  where
    by_end : (b : Bool) (e : ProcessEvent) → takes (until_end h) ≡ takes h → takes (if b then own_only e (until_end h) else all_but_end e (until_end h)) ≡ takes (e ∷ h)
    by_end true (Takes d) rest = ap (λ n. n + 1) rest
    by_end true (Writes w) rest = rest
    by_end true (Does d) rest = rest
    by_end true (_) rest = rest
    by_end false (Takes d) rest = ap (λ n. n + 1) rest
    by_end false Ends rest = rest
    by_end false (_) rest = rest

pub waits_same : (h : List ProcessEvent) → Flows h → bundles_waiting (until_end h) ≡ bundles_waiting h
waits_same h f = ap₂ (λ n ds. drop n ds) (takes_same h) (sent_same h f)

pub flows_still : (h : List ProcessEvent) → Flows h → Flows (until_end h)
flows_still [] f = tt
flows_still (e ∷ h) f = by_end (is_ended h) refl e f.0 (flows_still h f.1)
  where
    by_end : (b : Bool) → is_ended h ≡ b → (e : ProcessEvent) → Flow e h → Flows (until_end h) → Flows (if b then own_only e (until_end h) else all_but_end e (until_end h))
    by_end true is (Writes w) flow rest = (tt, rest)
    by_end true is (Takes d) flow rest = (record { rest = flow.rest; is = waits_same h f.1 ∙ flow.is }, rest)
    by_end true is (Does d) flow rest = (tt, rest)
    by_end true is (Sends k u d) flow rest = rest
    by_end true is (Accepts k w) flow rest = rest
    by_end true is (Reverts k w d) flow rest = rest
    by_end true is (Ignores k w) flow rest = rest
    by_end true is (Changes k u) flow rest = rest
    by_end true is Ends flow rest = rest
    by_end true is Rests flow rest = rest
    by_end false is (Writes w) flow rest = (tt, rest)
    by_end false is (Takes d) flow rest = (record { rest = flow.rest; is = waits_same h f.1 ∙ flow.is }, rest)
    by_end false is (Does d) flow rest = (tt, rest)
    by_end false is (Sends k u d) flow rest = (never_ends h, rest)
    by_end false is (Accepts k w) flow rest = (record { rest = flow.rest; is = ap writes_waiting (all_events h is) ∙ flow.is }, rest)
    by_end false is (Reverts k w d) flow rest = (record { first = record { rest = flow.first.rest; is = ap writes_waiting (all_events h is) ∙ flow.first.is }; alive = never_ends h }, rest)
    by_end false is (Ignores k w) flow rest = (record { rest = flow.rest; is = ap writes_waiting (all_events h is) ∙ flow.is }, rest)
    by_end false is (Changes k u) flow rest = (tt, rest)
    by_end false is Ends flow rest = rest
    by_end false is Rests flow rest = (tt, rest)
