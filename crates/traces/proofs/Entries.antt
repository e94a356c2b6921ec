-- The parent's entries: those that wait come later and later, and the parent's value at one is changed by none behind it.
use Rattle.std.proofs.Common.{◌≡◌, ℕ, ◌+◌, ◌<◌, ◌≤◌, Bool, true, false, if◌then◌else◌, None, Some, List, [], ◌∷◌, ◌++◌, refl, ap, sym, subst, arith}
use Rattle.std.specs.Prelude.{nat_lt}
use Rattle.std.proofs.lemmas.Bool.{lt-ltb, le-ltb}
use Rattle.traces.specs.Event.{Bundle}
use Rattle.traces.specs.Event.Event.{Sends, Takes, Accepts, Reverts, Ignores, Changes}
use Rattle.traces.specs.Links.{hears, bundles_waiting, last_sending, now}
use Rattle.traces.specs.Field.{FieldEvent, Trace}
use Rattle.traces.specs.Words.{or_else, value, value_at, base, accepted_at}
use Rattle.traces.specs.Rules.{Flows, Order, Ordered}
use Rattle.traces.proofs.Waits.{sent_waits, taken_leaves}

pub last_sent_past : {V : Type 0} (h : Trace V) → Ordered h → last_sending h ≤ now h
last_sent_past [] o = omega arith
last_sent_past (Sends k u c ∷ h) o = omega arith
last_sent_past (Reverts k w c ∷ h) o = omega arith
last_sent_past (Accepts k w ∷ h) o = omega (arith, o.0, last_sent_past h o.1)
last_sent_past (Ignores k w ∷ h) o = omega (arith, o.0, last_sent_past h o.1)
last_sent_past (Changes k w ∷ h) o = omega (arith, o.0, last_sent_past h o.1)
last_sent_past (_ ∷ h) o = last_sent_past h o.1

-- behind entry b the bundles come by rising entries up to the last, n, and none says that more than e writes were heard
abbrev pub Rising : {B : Type 0} → ℕ → ℕ → ℕ → List (Bundle B) → Type 0
Rising b n e [] = b ≤ n
Rising b n e (d ∷ ds) = (b < d.entry) × (d.epoch ≤ e) × Rising d.entry n e ds

rising_push : {B : Type 0} (b n e : ℕ) (d : Bundle B) (ds : List (Bundle B)) → n < d.entry → d.epoch ≤ e → Rising b n e ds → Rising b d.entry e (ds ++ d ∷ [])
rising_push b n e d [] l le r = (omega arith, le, omega arith)
rising_push b n e d (x ∷ ds) l le r = (r.0, r.1, rising_push x.entry n e d ds l le r.2)

rising_heard : {B : Type 0} (b n e : ℕ) (ds : List (Bundle B)) → Rising b n e ds → Rising b n (e + 1) ds
rising_heard b n e [] r = r
rising_heard b n e (x ∷ ds) r = (r.0, omega (arith, r.1), rising_heard x.entry n e ds r.2)

pub rising_end : {B : Type 0} (b n e : ℕ) (ds : List (Bundle B)) → Rising b n e ds → b ≤ n
rising_end b n e [] r = r
rising_end b n e (d ∷ ds) r = omega (arith, r.0, rising_end d.entry n e ds r.2)

pub rising : {V : Type 0} (h : Trace V) → Flows h → Ordered h → Rising (base h) (last_sending h) (hears h) (bundles_waiting h)
rising [] f o = omega arith
rising (Sends k u c ∷ h) f o =
    subst (λ ds. Rising (base h) k (hears h) ds) (sym (sent_waits (record { entry = k; epoch = hears h; content = c }) h f.1))
    (rising_push (base h) (last_sending h) (hears h) (record { entry = k; epoch = hears h; content = c }) (bundles_waiting h) o.0.once (omega arith) (rising h f.1 o.1))
rising (Reverts k w c ∷ h) f o =
    subst (λ ds. Rising (base h) k (hears h + 1) ds) (sym (sent_waits (record { entry = k; epoch = hears h + 1; content = c }) h f.1))
    (rising_push (base h) (last_sending h) (hears h + 1) (record { entry = k; epoch = hears h + 1; content = c }) (bundles_waiting h)
    (omega (arith, o.0, last_sent_past h o.1)) (omega arith) (rising_heard (base h) (last_sending h) (hears h) (bundles_waiting h) (rising h f.1 o.1)))
rising (Accepts k w ∷ h) f o = rising_heard (base h) (last_sending h) (hears h) (bundles_waiting h) (rising h f.1 o.1)
rising (Ignores k w ∷ h) f o = rising_heard (base h) (last_sending h) (hears h) (bundles_waiting h) (rising h f.1 o.1)
rising (Takes d ∷ h) f o =
    let r : Rising (base h) (last_sending h) (hears h) (d ∷ f.0.rest) = subst (λ ds. Rising (base h) (last_sending h) (hears h) ds) f.0.is (rising h f.1 o.1) in
    subst (λ ds. Rising d.entry (last_sending h) (hears h) ds) (sym (taken_leaves d h f.0)) r.2
rising (_ ∷ h) f o = rising h f.1 o.1

pub base_past : {V : Type 0} (h : Trace V) → Flows h → Ordered h → base h ≤ now h
base_past h f o = omega (arith, rising_end (base h) (last_sending h) (hears h) (bundles_waiting h) (rising h f o), last_sent_past h o)

pub accepted_past : {V : Type 0} (h : Trace V) → Ordered h → accepted_at h ≤ now h
accepted_past [] o = omega arith
accepted_past (Accepts k None ∷ h) o = omega (arith, o.0, accepted_past h o.1)
accepted_past (Accepts k (Some v) ∷ h) o = omega arith
accepted_past (Sends k u c ∷ h) o = omega (arith, o.0.after, accepted_past h o.1)
accepted_past (Reverts k w c ∷ h) o = omega (arith, o.0, accepted_past h o.1)
accepted_past (Ignores k w ∷ h) o = omega (arith, o.0, accepted_past h o.1)
accepted_past (Changes k w ∷ h) o = omega (arith, o.0, accepted_past h o.1)
accepted_past (_ ∷ h) o = accepted_past h o.1

-- behind the last entry the parent's value is the present one
pub value_past : {V : Type 0} (initial : V) (k : ℕ) (h : Trace V) → Ordered h → now h ≤ k → value_at initial k h ≡ value initial h
value_past initial k [] o l = refl
value_past initial k (Sends j u c ∷ h) o l = rw (le-ltb k j l) (ap (or_else u) (value_past initial k h o.1 (omega (arith, o.0.after))))
value_past initial k (Accepts j w ∷ h) o l = rw (le-ltb k j l) (ap (or_else w) (value_past initial k h o.1 (omega (arith, o.0))))
value_past initial k (Changes j w ∷ h) o l = rw (le-ltb k j l) (ap (or_else w) (value_past initial k h o.1 (omega (arith, o.0))))
value_past initial k (Reverts j w c ∷ h) o l = value_past initial k h o.1 (omega (arith, o.0))
value_past initial k (Ignores j w ∷ h) o l = value_past initial k h o.1 (omega (arith, o.0))
value_past initial k (_ ∷ h) o l = value_past initial k h o.1 l

pub same_either : {V : Type 0} (b : Bool) (x : V) → (if b then x else x) ≡ x
same_either true x = refl
same_either false x = refl

-- an event changes the value at no earlier entry
pub value_over : {V : Type 0} (initial : V) (k : ℕ) (e : FieldEvent V) (h : Trace V) → Order e h → k ≤ now h → value_at initial k (e ∷ h) ≡ value_at initial k h
value_over initial k (Sends j None c) h o l = same_either (nat_lt k j) _
value_over initial k (Sends j (Some v) c) h o l = let later : now h < j = o.changes refl in rw (lt-ltb k j (omega arith)) refl
value_over initial k (Accepts j w) h o l = rw (lt-ltb k j (omega arith)) refl
value_over initial k (Changes j w) h o l = rw (lt-ltb k j (omega arith)) refl
value_over initial k _ h o l = refl
