-- What waits on the two links: a send puts it at the end, a take removes the first.
use Rattle.std.proofs.Common.{◌≡◌, ℕ, ◌+◌, ◌≤◌, List, [], ◌∷◌, ◌++◌, length, drop, refl, ap, sym, ◌∙◌, arith, length-append, length-drop}
use Rattle.std.proofs.lemmas.List.{drop-drop, drop-append-le}
use Rattle.traces.specs.Event.{Bundle, Event}
use Rattle.traces.specs.Event.Event.{Writes, Sends, Takes, Accepts, Reverts, Ignores}
use Rattle.traces.specs.Links.{writes, last_write, hears, writes_waiting, bundles_sent, takes, bundles_waiting}
use Rattle.traces.specs.Rules.{IsFirst, Flows}

some_left : {X : Type 0} (n : ℕ) (xs : List X) (x : X) → IsFirst x (drop n xs) → n + 1 ≤ length xs
some_left n xs x f = omega (arith, length-drop n xs, ap length f.is)

-- without its first, what waits is the rest
pub without_first : {X : Type 0} (n : ℕ) (xs : List X) (x : X) (f : IsFirst x (drop n xs)) → drop (n + 1) xs ≡ f.rest
without_first n xs x f = sym (drop-drop 1 n xs) ∙ ap (drop 1) f.is

pub heard_fits : {W B : Type 0} (h : List (Event W B)) → Flows h → hears h ≤ length (writes h)
heard_fits [] f = omega arith
heard_fits (Writes w ∷ h) f = omega (arith, length-append (writes h) (w ∷ []), heard_fits h f.1)
heard_fits (Accepts k w ∷ h) f = some_left (hears h) (writes h) w f.0
heard_fits (Reverts k w c ∷ h) f = some_left (hears h) (writes h) w f.0.first
heard_fits (Ignores k w ∷ h) f = some_left (hears h) (writes h) w f.0
heard_fits (_ ∷ h) f = heard_fits h f.1

pub taken_fits : {W B : Type 0} (h : List (Event W B)) → Flows h → takes h ≤ length (bundles_sent h)
taken_fits [] f = omega arith
taken_fits (Sends k u c ∷ h) f = omega (arith, length-append (bundles_sent h) (record { entry = k; epoch = hears h; content = c } ∷ []), taken_fits h f.1)
taken_fits (Reverts k w c ∷ h) f = omega (arith, length-append (bundles_sent h) (record { entry = k; epoch = hears h + 1; content = c } ∷ []), taken_fits h f.1)
taken_fits (Takes d ∷ h) f = some_left (takes h) (bundles_sent h) d f.0
taken_fits (_ ∷ h) f = taken_fits h f.1

pub written_is : {W B : Type 0} (h : List (Event W B)) → last_write h ≡ length (writes h)
written_is [] = refl
written_is (Writes w ∷ h) = omega (arith, length-append (writes h) (w ∷ []), written_is h)
written_is (_ ∷ h) = written_is h

-- every own write was heard or waits
pub waiting_count : {W B : Type 0} (h : List (Event W B)) → Flows h → hears h + length (writes_waiting h) ≡ last_write h
waiting_count h f = omega (arith, length-drop (hears h) (writes h), heard_fits h f, written_is h)

pub write_waits : {W B : Type 0} (w : W) (h : List (Event W B)) → Flows h → writes_waiting (Writes w ∷ h) ≡ writes_waiting h ++ w ∷ []
write_waits w h f = drop-append-le (hears h) (writes h) (w ∷ []) (heard_fits h f)

pub sent_waits : {W B : Type 0} (d : Bundle B) (h : List (Event W B)) → Flows h → drop (takes h) (bundles_sent h ++ d ∷ []) ≡ bundles_waiting h ++ d ∷ []
sent_waits d h f = drop-append-le (takes h) (bundles_sent h) (d ∷ []) (taken_fits h f)

-- after a hear or a take the rest waits
pub heard_leaves : {W B : Type 0} (w : W) (h : List (Event W B)) (f : IsFirst w (writes_waiting h)) → drop (hears h + 1) (writes h) ≡ f.rest
heard_leaves w h f = without_first (hears h) (writes h) w f

pub taken_leaves : {W B : Type 0} (d : Bundle B) (h : List (Event W B)) (f : IsFirst d (bundles_waiting h)) → drop (takes h + 1) (bundles_sent h) ≡ f.rest
taken_leaves d h f = without_first (takes h) (bundles_sent h) d f
