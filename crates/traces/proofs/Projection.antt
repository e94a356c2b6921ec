-- A field's trace keeps the rules of links and entries, where the process's events do.
use Rattle.std.proofs.Common.{◌≡◌, ℕ, ◌+◌, ◌<◌, false, Option, None, Some, List, [], ◌∷◌, ◌++◌, drop, map, refl, ap, sym, ◌∙◌, arith}
use Rattle.std.proofs.lemmas.List.{map-append, drop-map}
use Rattle.traces.specs.Event.{Bundle, Event}
use Rattle.traces.specs.Event.Event.{Writes, Sends, Takes, Accepts, Reverts, Ignores, Changes, Does, Ends, Rests}
use Rattle.traces.specs.Links.{writes, writes_waiting, hears, bundles_sent, takes, is_ended, last_sending, now}
use Rattle.traces.specs.Field.{Content, Trace, Look, bundle_for, reverted_for, trace_for}
use Rattle.traces.specs.Field.Content.{Nothing, Gives, Begins, Removes, Leaves}
use Rattle.traces.specs.Rules.{IsFirst, Flows, Rises, SentInOrder, Ordered}
use Rattle.traces.specs.Laws.{Apart, ProjectionKeepsTheRules}
use Rattle.traces.proofs.Entries.{last_sent_past}

-- what the links of the field's trace t hold is what those of the process's events hold, looked into
record Same {W B V : Type 0} (look : Look W B V) (h : List (Event W B)) (t : Trace V) : Type 0 where
  pub wrote : writes t ≡ map look.value_in (writes h)
  pub same_hears : hears t ≡ hears h
  pub bundles : bundles_sent t ≡ map (bundle_for look.content_in) (bundles_sent h)
  pub take_of : takes t ≡ takes h
  pub over : is_ended t ≡ is_ended h
  pub now_is : now t ≡ now h
  pub last_sent : last_sending t ≡ last_sending h

-- a hear that sends something back adds the same, reverted for the field or not
record Answered {V : Type 0} (k : ℕ) (c : Content V) (t after : Trace V) : Type 0 where
  pub wrote : writes after ≡ writes t
  pub same_hears : hears after ≡ hears t + 1
  pub bundles : bundles_sent after ≡ bundles_sent t ++ record { entry = k; epoch = hears t + 1; content = c } ∷ []
  pub take_of : takes after ≡ takes t
  pub over : is_ended after ≡ is_ended t
  pub now_is : now after ≡ k
  pub last_sent : last_sending after ≡ k

answer : {V : Type 0} (k : ℕ) (w : Option V) (c : Content V) (t : Trace V) → Answered k c t (reverted_for k w c t)
answer k None c t = record { wrote = refl; same_hears = refl; bundles = refl; take_of = refl; over = refl; now_is = refl; last_sent = refl }
answer k (Some v) Nothing t = record { wrote = refl; same_hears = refl; bundles = refl; take_of = refl; over = refl; now_is = refl; last_sent = refl }
answer k (Some v) (Gives b) t = record { wrote = refl; same_hears = refl; bundles = refl; take_of = refl; over = refl; now_is = refl; last_sent = refl }
answer k (Some v) (Begins b) t = record { wrote = refl; same_hears = refl; bundles = refl; take_of = refl; over = refl; now_is = refl; last_sent = refl }
answer k (Some v) Leaves t = record { wrote = refl; same_hears = refl; bundles = refl; take_of = refl; over = refl; now_is = refl; last_sent = refl }
answer k (Some v) Removes t = record { wrote = refl; same_hears = refl; bundles = refl; take_of = refl; over = refl; now_is = refl; last_sent = refl }

pushed : {B V : Type 0} (content_in : B → Content V) (k m n : ℕ) (c : B) (ds : List (Bundle B)) (es : List (Bundle (Content V))) → es ≡ map (bundle_for content_in) ds → m ≡ n
    → es ++ record { entry = k; epoch = m; content = content_in c } ∷ [] ≡ map (bundle_for content_in) (ds ++ record { entry = k; epoch = n; content = c } ∷ [])
pushed content_in k m n c ds es e i =
    ap (λ x. x ++ record { entry = k; epoch = m; content = content_in c } ∷ []) e
    ∙ ap (λ x. map (bundle_for content_in) ds ++ record { entry = k; epoch = x; content = content_in c } ∷ []) i
    ∙ sym (map-append (bundle_for content_in) ds (record { entry = k; epoch = n; content = c } ∷ []))

same : {W B V : Type 0} (look : Look W B V) (h : List (Event W B)) → Same look h (trace_for look h)
same look [] = record { wrote = refl; same_hears = refl; bundles = refl; take_of = refl; over = refl; now_is = refl; last_sent = refl }
same look (Writes w ∷ h) = let s : Same look h (trace_for look h) = same look h in record {
  wrote = ap (λ x. x ++ look.value_in w ∷ []) s.wrote ∙ sym (map-append look.value_in (writes h) (w ∷ []));
  same_hears = s.same_hears;
  bundles = s.bundles;
  take_of = s.take_of;
  over = s.over;
  now_is = s.now_is;
  last_sent = s.last_sent;
}
same look (Sends k u c ∷ h) = let s : Same look h (trace_for look h) = same look h in record {
  wrote = s.wrote;
  same_hears = s.same_hears;
  bundles = pushed look.content_in k (hears (trace_for look h)) (hears h) c (bundles_sent h) (bundles_sent (trace_for look h)) s.bundles s.same_hears;
  take_of = s.take_of;
  over = s.over;
  now_is = refl;
  last_sent = refl;
}
same look (Takes d ∷ h) = let s : Same look h (trace_for look h) = same look h in record {
  wrote = s.wrote;
  same_hears = s.same_hears;
  bundles = s.bundles;
  take_of = ap (λ n. n + 1) s.take_of;
  over = s.over;
  now_is = s.now_is;
  last_sent = s.last_sent;
}
same look (Accepts k w ∷ h) = let s : Same look h (trace_for look h) = same look h in record {
  wrote = s.wrote;
  same_hears = ap (λ n. n + 1) s.same_hears;
  bundles = s.bundles;
  take_of = s.take_of;
  over = s.over;
  now_is = refl;
  last_sent = s.last_sent;
}
same look (Ignores k w ∷ h) = let s : Same look h (trace_for look h) = same look h in record {
  wrote = s.wrote;
  same_hears = ap (λ n. n + 1) s.same_hears;
  bundles = s.bundles;
  take_of = s.take_of;
  over = s.over;
  now_is = refl;
  last_sent = s.last_sent;
}
same look (Reverts k w c ∷ h) =
    let s : Same look h (trace_for look h) = same look h in
    let a : Answered k (look.content_in c) (trace_for look h) (reverted_for k (look.value_in w) (look.content_in c) (trace_for look h)) = answer k (look.value_in w) (look.content_in c) (trace_for look h) in record {
      wrote = a.wrote ∙ s.wrote;
      same_hears = a.same_hears ∙ ap (λ n. n + 1) s.same_hears;
      bundles = a.bundles ∙ pushed look.content_in k (hears (trace_for look h) + 1) (hears h + 1) c (bundles_sent h) (bundles_sent (trace_for look h)) s.bundles (ap (λ n. n + 1) s.same_hears);
      take_of = a.take_of ∙ s.take_of;
      over = a.over ∙ s.over;
      now_is = a.now_is;
      last_sent = a.last_sent;
    }
same look (Changes k u ∷ h) = let s : Same look h (trace_for look h) = same look h in record {
  wrote = s.wrote;
  same_hears = s.same_hears;
  bundles = s.bundles;
  take_of = s.take_of;
  over = s.over;
  now_is = refl;
  last_sent = s.last_sent;
}
same look (Does c ∷ h) = let s : Same look h (trace_for look h) = same look h in record {
  wrote = s.wrote;
  same_hears = s.same_hears;
  bundles = s.bundles;
  take_of = s.take_of;
  over = s.over;
  now_is = s.now_is;
  last_sent = s.last_sent;
}
same look (Ends ∷ h) = let s : Same look h (trace_for look h) = same look h in record {
  wrote = s.wrote;
  same_hears = s.same_hears;
  bundles = s.bundles;
  take_of = s.take_of;
  over = refl;
  now_is = s.now_is;
  last_sent = s.last_sent;
}
same look (Rests ∷ h) = let s : Same look h (trace_for look h) = same look h in record {
  wrote = s.wrote;
  same_hears = s.same_hears;
  bundles = s.bundles;
  take_of = s.take_of;
  over = s.over;
  now_is = s.now_is;
  last_sent = s.last_sent;
}

-- the first of what waits, looked into
first_for : {X Y : Type 0} (f : X → Y) (n m : ℕ) (x : X) (xs : List X) (ys : List Y) → n ≡ m → ys ≡ map f xs → IsFirst x (drop m xs) → IsFirst (f x) (drop n ys)
first_for f n m x xs ys e i first = record {
  rest = map f first.rest;
  is = ap (λ k. drop k ys) e ∙ ap (drop m) i ∙ drop-map f m xs ∙ ap (map f) first.is;
}

write_for : {W B V : Type 0} (look : Look W B V) (w : W) (h : List (Event W B)) → IsFirst w (writes_waiting h) → IsFirst (look.value_in w) (writes_waiting (trace_for look h))
write_for look w h first =
    let s : Same look h (trace_for look h) = same look h in
    first_for look.value_in (hears (trace_for look h)) (hears h) w (writes h) (writes (trace_for look h)) s.same_hears s.wrote first

flows_reverted : {V : Type 0} (k : ℕ) (w : Option V) (c : Content V) (t : Trace V) → IsFirst w (writes_waiting t) → is_ended t ≡ false → Flows t → Flows (reverted_for k w c t)
flows_reverted k None c t first alive f = (alive, (first, f))
flows_reverted k (Some v) Nothing t first alive f = (alive, (first, f))
flows_reverted k (Some v) (Gives b) t first alive f = (record { first = first; alive = alive }, f)
flows_reverted k (Some v) (Begins b) t first alive f = (alive, (first, f))
flows_reverted k (Some v) Removes t first alive f = (alive, (first, f))
flows_reverted k (Some v) Leaves t first alive f = (alive, (first, f))

flows_for : {W B V : Type 0} (look : Look W B V) (h : List (Event W B)) → Flows h → Flows (trace_for look h)
flows_for look [] f = tt
flows_for look (Writes w ∷ h) f = (tt, flows_for look h f.1)
flows_for look (Sends k u c ∷ h) f = let s : Same look h (trace_for look h) = same look h in (s.over ∙ f.0, flows_for look h f.1)
flows_for look (Takes d ∷ h) f =
    let s : Same look h (trace_for look h) = same look h in
    (first_for (bundle_for look.content_in) (takes (trace_for look h)) (takes h) d (bundles_sent h) (bundles_sent (trace_for look h)) s.take_of s.bundles f.0, flows_for look h f.1)
flows_for look (Accepts k w ∷ h) f = (write_for look w h f.0, flows_for look h f.1)
flows_for look (Ignores k w ∷ h) f = (write_for look w h f.0, flows_for look h f.1)
flows_for look (Reverts k w c ∷ h) f =
    let s : Same look h (trace_for look h) = same look h in
    flows_reverted k (look.value_in w) (look.content_in c) (trace_for look h) (write_for look w h f.0.first) (s.over ∙ f.0.alive) (flows_for look h f.1)
flows_for look (Changes k u ∷ h) f = (tt, flows_for look h f.1)
flows_for look (Does c ∷ h) f = (tt, flows_for look h f.1)
flows_for look (Ends ∷ h) f = (tt, flows_for look h f.1)
flows_for look (Rests ∷ h) f = (tt, flows_for look h f.1)

answered_last : {V : Type 0} (k : ℕ) (w : Option V) (t : Trace V) → last_sending t < k → SentInOrder k None (Accepts k w ∷ t)
answered_last k w t l = record { once = l; after = omega arith; changes = λ e. cc }

ordered_reverted : {V : Type 0} (k : ℕ) (w : Option V) (c : Content V) (t : Trace V) → now t < k → last_sending t < k → Ordered t → Ordered (reverted_for k w c t)
ordered_reverted k None c t l m o = (answered_last k None t m, (l, o))
ordered_reverted k (Some v) Nothing t l m o = (answered_last k (Some v) t m, (l, o))
ordered_reverted k (Some v) (Gives b) t l m o = (l, o)
ordered_reverted k (Some v) (Begins b) t l m o = (answered_last k (Some v) t m, (l, o))
ordered_reverted k (Some v) Removes t l m o = (answered_last k (Some v) t m, (l, o))
ordered_reverted k (Some v) Leaves t l m o = (answered_last k (Some v) t m, (l, o))

ordered_for : {W B V : Type 0} (look : Look W B V) (h : List (Event W B)) → Rises h → Apart look h → Ordered (trace_for look h)
ordered_for look [] r p = tt
ordered_for look (Writes w ∷ h) r p = (tt, ordered_for look h r.1 p)
ordered_for look (Sends k u c ∷ h) r p =
    let s : Same look h (trace_for look h) = same look h in
    (record { once = omega (arith, s.last_sent, r.0.once); after = omega (arith, s.now_is, r.0.after); changes = λ e. omega (arith, s.now_is, p.0 e) }, ordered_for look h r.1 p.1)
ordered_for look (Takes d ∷ h) r p = (tt, ordered_for look h r.1 p)
ordered_for look (Accepts k w ∷ h) r p = let s : Same look h (trace_for look h) = same look h in (omega (arith, s.now_is, r.0), ordered_for look h r.1 p)
ordered_for look (Ignores k w ∷ h) r p = let s : Same look h (trace_for look h) = same look h in (omega (arith, s.now_is, r.0), ordered_for look h r.1 p)
ordered_for look (Changes k w ∷ h) r p = let s : Same look h (trace_for look h) = same look h in (omega (arith, s.now_is, r.0), ordered_for look h r.1 p)
ordered_for look (Reverts k w c ∷ h) r p =
    let s : Same look h (trace_for look h) = same look h in
    let o : Ordered (trace_for look h) = ordered_for look h r.1 p in
    ordered_reverted k (look.value_in w) (look.content_in c) (trace_for look h) (omega (arith, s.now_is, r.0)) (omega (arith, s.now_is, last_sent_past (trace_for look h) o, r.0)) o
ordered_for look (Does c ∷ h) r p = (tt, ordered_for look h r.1 p)
ordered_for look (Ends ∷ h) r p = (tt, ordered_for look h r.1 p)
ordered_for look (Rests ∷ h) r p = (tt, ordered_for look h r.1 p)

waiting_for : {X Y : Type 0} (f : X → Y) (n m : ℕ) (xs : List X) (ys : List Y) → n ≡ m → ys ≡ map f xs → drop n ys ≡ map f (drop m xs)
waiting_for f n m xs ys e i = ap (λ k. drop k ys) e ∙ ap (drop m) i ∙ drop-map f m xs

pub projection : (W B V : Type 0) → ProjectionKeepsTheRules W B V
projection W B V look h f r p = let s : Same look h (trace_for look h) = same look h in record {
  flows = flows_for look h f;
  ordered = ordered_for look h r p;
  writes_wait = waiting_for look.value_in (hears (trace_for look h)) (hears h) (writes h) (writes (trace_for look h)) s.same_hears s.wrote;
  bundles_wait = waiting_for (bundle_for look.content_in) (takes (trace_for look h)) (takes h) (bundles_sent h) (bundles_sent (trace_for look h)) s.take_of s.bundles;
  same_end = s.over;
}
