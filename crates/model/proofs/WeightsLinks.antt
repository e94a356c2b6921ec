-- What waits on the links of one process, and how an event changes its weight.
use Rattle.std.proofs.Common.{◌≡◌, ℕ, zero, suc, ◌+◌, ◌≤◌, Bool, true, false, List, [], ◌∷◌, ◌++◌, length, drop, map, refl, ap, sym, subst, ◌∙◌, arith, append_assoc, length-append, length-drop, if◌then◌else◌}
use Rattle.std.specs.List.{AllByRecursion, list_any}
use Rattle.std.proofs.lemmas.List.{drop-drop, drop-append-le}
use Rattle.std.specs.Prelude.{Option, None, Some}
use Rattle.wire_msgs.specs.declared.answer.Answer.{Answer}
use Rattle.wire_msgs.specs.declared.answer.Answer.TheVariants.{Ended as EndedBy}
use Rattle.wire_msgs.specs.declared.bundle.DownBundle.{DownBundle}
use Rattle.wire_msgs.specs.declared.bundle.UpBundle.{UpBundle}
use Rattle.protocol.specs.Sayings.{Saying}
use Rattle.protocol.specs.Seen.{Seen, Doing}
use Rattle.protocol.specs.Seen.Doing.{Framed, Went}
use Rattle.traces.specs.Event.{Bundle}
use Rattle.traces.specs.Event.Event.{Writes, Sends, Takes, Accepts, Reverts, Ignores, Does, Ends}
use Rattle.traces.specs.Links.{writes, hears, writes_waiting, bundles_sent, takes, bundles_waiting}
use Rattle.model.specs.Links.{bundles_in}
use Rattle.model.specs.Moments.{Written, ProcessEvent, is_end_of, ends, told, heard, is_done, written, deeds}
use Rattle.model.specs.Moments.Written.{Own, Raw, Said}
use Rattle.model.specs.Settling.{total, up_weight, down_weight}

-- ---- what is on the links

-- a bundle, and nothing that the parent said
abbrev pub IsUp : Written → Type 0
IsUp (Own b) = Unit {0}
IsUp (Raw b) = Unit {0}
IsUp (Said says) = ⊥

-- no more was heard or taken than was sent, and a process sent bundles
pub record Light (h : List ProcessEvent) : Type 0 where
  pub heard : hears h ≤ length (writes h)
  pub taken : takes h ≤ length (bundles_sent h)
  pub ups : AllByRecursion IsUp (writes h)

-- ---- weights

abbrev pub own_total : List Written → ℕ
own_total ws = total up_weight (bundles_in ws)

abbrev pub sent_total : List (Bundle DownBundle) → ℕ
sent_total bs = total down_weight (map (λ (b : Bundle DownBundle). b.content) bs)

-- what waits on both links
abbrev pub weighs : List ProcessEvent → ℕ
weighs h = own_total (writes_waiting h) + sent_total (bundles_waiting h)

-- of a bundle, if there is one
abbrev pub up_out : Option UpBundle → ℕ
up_out None = 0
up_out (Some b) = up_weight b

abbrev pub down_out : Option DownBundle → ℕ
down_out None = 0
down_out (Some d) = down_weight d

own_total-append : (vs ws : List Written) → own_total (vs ++ ws) ≡ own_total vs + own_total ws
own_total-append [] ws = omega arith
own_total-append (Own b ∷ vs) ws = omega (arith, own_total-append vs ws)
own_total-append (Raw b ∷ vs) ws = omega (arith, own_total-append vs ws)
own_total-append (Said says ∷ vs) ws = own_total-append vs ws

sent_total-append : (bs cs : List (Bundle DownBundle)) → sent_total (bs ++ cs) ≡ sent_total bs + sent_total cs
sent_total-append [] cs = omega arith
sent_total-append (b ∷ bs) cs = omega (arith, sent_total-append bs cs)

-- ---- lists

all_and_one : {X : Type 0} (P : X → Type 0) (xs : List X) (x : X) → AllByRecursion P xs → P x → AllByRecursion P (xs ++ x ∷ [])
all_and_one P [] x all one = (one, tt)
all_and_one P (y ∷ xs) x all one = (all.0, all_and_one P xs x all.1 one)

all_behind : {X : Type 0} (P : X → Type 0) (n : ℕ) (xs : List X) → AllByRecursion P xs → AllByRecursion P (drop n xs)
all_behind P zero xs all = all
all_behind P (suc n) [] all = all
all_behind P (suc n) (x ∷ xs) all = all_behind P n xs all.1

some_left : {X : Type 0} (n : ℕ) (xs : List X) (y : X) (ys : List X) → drop n xs ≡ y ∷ ys → n + 1 ≤ length xs
some_left n xs y ys first = omega (arith, length-drop n xs, ap length first)

without_first : {X : Type 0} (n : ℕ) (xs : List X) (y : X) (ys : List X) → drop n xs ≡ y ∷ ys → drop (n + 1) xs ≡ ys
without_first n xs y ys first = sym (drop-drop 1 n xs) ∙ ap (drop 1) first

-- ---- what an event does

-- an event kept the links light, and what waits has risen by so much at most and fallen by so much at least
pub record Changed (h new : List ProcessEvent) (more less : ℕ) : Type 0 where
  pub light : Light new
  pub weight : weighs new + less ≤ weighs h + more

pub nothing_sent : Light []
nothing_sent = record { heard = omega arith; taken = omega arith; ups = tt }

pub unchanged : (h : List ProcessEvent) → Light h → Changed h h 0 0
unchanged h light = record { light = light; weight = omega arith }

-- one change behind another
then_changed : (h mid new : List ProcessEvent) (more less more' less' : ℕ) → Changed h mid more less → Changed mid new more' less' → Changed h new (more + more') (less + less')
then_changed h mid new more less more' less' one two = record { light = two.light; weight = omega (arith, one.weight, two.weight) }

pub weaker : (h new : List ProcessEvent) (more less more' less' : ℕ) → more ≤ more' → less' ≤ less → Changed h new more less → Changed h new more' less'
weaker h new more less more' less' up down changed = record { light = changed.light; weight = omega (arith, changed.weight) }

-- a bundle that a process sends
one_up : (w : Written) (b : UpBundle) (h : List ProcessEvent) → IsUp w → bundles_in (w ∷ []) ≡ b ∷ [] → Light h → Changed h (Writes w ∷ h) (up_weight b) 0
one_up w b h own is light = record {
  light = record {
    heard = omega (arith, length-append (writes h) (w ∷ []), light.heard);
    taken = light.taken;
    ups = all_and_one IsUp (writes h) w light.ups own;
  };
  weight =
      let waits : drop (hears h) (writes h ++ w ∷ []) ≡ drop (hears h) (writes h) ++ w ∷ [] = drop-append-le (hears h) (writes h) (w ∷ []) light.heard in
      let alone : own_total (w ∷ []) ≡ up_weight b + 0 = ap (total up_weight) is in
      omega (arith, ap own_total waits, own_total-append (drop (hears h) (writes h)) (w ∷ []), alone);
}

pub one_raw : (b : UpBundle) (h : List ProcessEvent) → Light h → Changed h (Writes (Raw b) ∷ h) (up_weight b) 0
one_raw b h light = one_up (Raw b) b h tt refl light

-- one of its own acts, if there is one
pub one_written : (o : Option UpBundle) (h : List ProcessEvent) → Light h → Changed h (written o ++ h) (up_out o) 0
one_written None h light = unchanged h light
one_written (Some b) h light = one_up (Own b) b h tt refl light

-- what a process does by itself
does_still : (b : DownBundle) (new : List ProcessEvent) → Light new → Light (Does b ∷ new)
does_still b new light = record { heard = light.heard; taken = light.taken; ups = light.ups }

pub deeds_still : (s : Seen) (did : List Doing) (h : List ProcessEvent) → Light h → Changed h (deeds s did ++ h) 0 0
deeds_still s [] h light = unchanged h light
deeds_still s (Framed x above ∷ did) h light =
    let rest : Changed h (deeds s did ++ h) 0 0 = deeds_still s did h light in
    record { light = does_still _ (deeds s did ++ h) rest.light; weight = rest.weight }
deeds_still s (Went x ∷ did) h light =
    let rest : Changed h (deeds s did ++ h) 0 0 = deeds_still s did h light in
    record { light = does_still _ (deeds s did ++ h) rest.light; weight = rest.weight }
deeds_still s (_ ∷ did) h light = deeds_still s did h light

-- it acts: a bundle, and what it did by itself before
pub one_act : (o : Option UpBundle) (s : Seen) (did : List Doing) (h : List ProcessEvent) → Light h → Changed h ((written o ++ deeds s did) ++ h) (up_out o) 0
one_act o s did h light =
    let before : Changed h (deeds s did ++ h) 0 0 = deeds_still s did h light in
    subst (λ (es : List ProcessEvent). Changed h es (up_out o) 0) (sym (append_assoc (written o) (deeds s did) h))
    (weaker h (written o ++ (deeds s did ++ h)) (0 + up_out o) (0 + 0) (up_out o) 0 (omega arith) (omega arith)
    (then_changed h (deeds s did ++ h) (written o ++ (deeds s did ++ h)) 0 0 (up_out o) 0 before (one_written o (deeds s did ++ h) before.light)))

one_sent : (k : ℕ) (u : Written) (d : DownBundle) (h : List ProcessEvent) → Light h → Changed h (Sends k u d ∷ h) (down_weight d) 0
one_sent k u d h light =
    let b : Bundle DownBundle = record { entry = k; epoch = hears h; content = d } in
    record {
      light = record {
        heard = light.heard;
        taken = omega (arith, length-append (bundles_sent h) (b ∷ []), light.taken);
        ups = light.ups;
      };
      weight =
          let waits : drop (takes h) (bundles_sent h ++ b ∷ []) ≡ drop (takes h) (bundles_sent h) ++ b ∷ [] = drop-append-le (takes h) (bundles_sent h) (b ∷ []) light.taken in
          omega (arith, ap sent_total waits, sent_total-append (drop (takes h) (bundles_sent h)) (b ∷ []));
    }

-- the end of a process
ended_still : (new h : List ProcessEvent) (more less : ℕ) → Changed h new more less → Changed h (Ends ∷ new) more less
ended_still new h more less c = record {
  light = record { heard = c.light.heard; taken = c.light.taken; ups = c.light.ups };
  weight = c.weight;
}

ends_still : (v : Bool) (new h : List ProcessEvent) (more less : ℕ) → Changed h new more less → Changed h ((if v then Ends ∷ [] else []) ++ new) more less
ends_still true new h more less c = ended_still new h more less c
ends_still false new h more less c = c

-- what the parent tells a process
told_alone : (k : ℕ) (says : List Saying) (o : Option DownBundle) (h : List ProcessEvent) → Light h → Changed h (told k says o ∷ h) (down_out o) 0
told_alone k says None h light = record {
  light = record { heard = light.heard; taken = light.taken; ups = light.ups };
  weight = omega arith;
}
told_alone k says (Some d) h light = one_sent k (Said says) d h light

pub one_told : (k q : ℕ) (says : List Saying) (o : Option DownBundle) (h : List ProcessEvent) → Light h → Changed h ((ends q says ++ told k says o ∷ []) ++ h) (down_out o) 0
one_told k q says o h light =
    subst (λ (es : List ProcessEvent). Changed h es (down_out o) 0) (sym (append_assoc (ends q says) (told k says o ∷ []) h))
    (ends_still (list_any (is_end_of q) says) (told k says o ∷ h) h (down_out o) 0 (told_alone k says o h light))

-- a bundle that is taken
took_one : (h : List ProcessEvent) (b : Bundle DownBundle) (bs : List (Bundle DownBundle)) → bundles_waiting h ≡ b ∷ bs → Light h → Changed h (Takes b ∷ h) 0 (down_weight b.content)
took_one h b bs first light = record {
  light = record {
    heard = light.heard;
    taken = some_left (takes h) (bundles_sent h) b bs first;
    ups = light.ups;
  };
  weight =
      let rest : drop (takes h + 1) (bundles_sent h) ≡ bs = without_first (takes h) (bundles_sent h) b bs first in
      omega (arith, ap sent_total first, ap sent_total rest);
}

-- and what the process sends then
pub one_taken : (h : List ProcessEvent) (b : Bundle DownBundle) (bs : List (Bundle DownBundle)) (o : Option UpBundle) → bundles_waiting h ≡ b ∷ bs → Light h
    → Changed h ((written o ++ Takes b ∷ []) ++ h) (up_out o) (down_weight b.content)
one_taken h b bs o first light =
    let took : Changed h (Takes b ∷ h) 0 (down_weight b.content) = took_one h b bs first light in
    subst (λ (es : List ProcessEvent). Changed h es (up_out o) (down_weight b.content)) (sym (append_assoc (written o) (Takes b ∷ []) h))
    (weaker h (written o ++ Takes b ∷ h) (0 + up_out o) (down_weight b.content + 0) (up_out o) (down_weight b.content) (omega arith) (omega arith)
    (then_changed h (Takes b ∷ h) (written o ++ Takes b ∷ h) 0 (down_weight b.content) (up_out o) 0 took (one_written o (Takes b ∷ h) took.light)))

pub waiting_own : (h : List ProcessEvent) → Light h → AllByRecursion IsUp (writes_waiting h)
waiting_own h light = all_behind IsUp (hears h) (writes h) light.ups

-- a bundle that waits first
pub record IsUpFirst (w : Written) (b : UpBundle) (ws : List Written) (h : List ProcessEvent) : Type 0 where
  pub first : writes_waiting h ≡ w ∷ ws
  pub total_is : (vs : List Written) → own_total (w ∷ vs) ≡ up_weight b + own_total vs

pub own_first : (h : List ProcessEvent) (b : UpBundle) (ws : List Written) → writes_waiting h ≡ Own b ∷ ws → IsUpFirst (Own b) b ws h
own_first h b ws first = record { first = first; total_is = λ vs. refl }

pub raw_first : (h : List ProcessEvent) (b : UpBundle) (ws : List Written) → writes_waiting h ≡ Raw b ∷ ws → IsUpFirst (Raw b) b ws h
raw_first h b ws first = record { first = first; total_is = λ vs. refl }

heard_left : (h : List ProcessEvent) (w : Written) (ws : List Written) → writes_waiting h ≡ w ∷ ws → hears h + 1 ≤ length (writes h)
heard_left h w ws first = some_left (hears h) (writes h) w ws first

heard_weighs : (h : List ProcessEvent) (w : Written) (b : UpBundle) (ws : List Written) → IsUpFirst w b ws h → own_total (drop (hears h + 1) (writes h)) + up_weight b ≡ own_total (writes_waiting h)
heard_weighs h w b ws is =
    let rest : drop (hears h + 1) (writes h) ≡ ws = without_first (hears h) (writes h) w ws is.first in
    omega (arith, ap own_total is.first, ap own_total rest, is.total_is ws)

one_accepted : (k : ℕ) (h : List ProcessEvent) (w : Written) (b : UpBundle) (ws : List Written) → IsUpFirst w b ws h → Light h → Changed h (Accepts k w ∷ h) 0 (up_weight b)
one_accepted k h w b ws is light = record {
  light = record { heard = heard_left h w ws is.first; taken = light.taken; ups = light.ups };
  weight = omega (arith, heard_weighs h w b ws is);
}

one_ignored : (k : ℕ) (h : List ProcessEvent) (w : Written) (b : UpBundle) (ws : List Written) → IsUpFirst w b ws h → Light h → Changed h (Ignores k w ∷ h) 0 (up_weight b)
one_ignored k h w b ws is light = record {
  light = record { heard = heard_left h w ws is.first; taken = light.taken; ups = light.ups };
  weight = omega (arith, heard_weighs h w b ws is);
}

one_reverted : (k : ℕ) (h : List ProcessEvent) (w : Written) (b : UpBundle) (ws : List Written) (d : DownBundle) → IsUpFirst w b ws h → Light h → Changed h (Reverts k w d ∷ h) (down_weight d) (up_weight b)
one_reverted k h w b ws d is light =
    let back : Bundle DownBundle = record { entry = k; epoch = hears h + 1; content = d } in
    record {
      light = record {
        heard = heard_left h w ws is.first;
        taken = omega (arith, length-append (bundles_sent h) (back ∷ []), light.taken);
        ups = light.ups;
      };
      weight =
          let waits : drop (takes h) (bundles_sent h ++ back ∷ []) ≡ drop (takes h) (bundles_sent h) ++ back ∷ [] = drop-append-le (takes h) (bundles_sent h) (back ∷ []) light.taken in
          omega (arith, heard_weighs h w b ws is, ap sent_total waits, sent_total-append (drop (takes h) (bundles_sent h)) (back ∷ []));
    }

-- one event, and another behind it
then_sent : (k : ℕ) (u : Written) (d : DownBundle) (h new : List ProcessEvent) (less : ℕ) → Changed h new 0 less → Changed h (Sends k u d ∷ new) (down_weight d) less
then_sent k u d h new less c =
    let later : Changed new (Sends k u d ∷ new) (down_weight d) 0 = one_sent k u d new c.light in
    record { light = later.light; weight = omega (arith, c.weight, later.weight) }

-- whatever the parent answers, and sends
heard_alone : (k : ℕ) (h : List ProcessEvent) (w : Written) (b : UpBundle) (ws : List Written) (answer : Answer) (says : List Saying) (o : Option DownBundle) → IsUpFirst w b ws h → Light h
    → Changed h (heard k w answer says o ++ h) (down_out o) (up_weight b)
heard_alone k h w b ws (EndedBy cause) says None is light = one_ignored k h w b ws is light
heard_alone k h w b ws (EndedBy cause) says (Some d) is light = then_sent k (Said says) d h (Ignores k w ∷ h) (up_weight b) (one_ignored k h w b ws is light)
heard_alone k h w b ws answer says None is light = elim (is_done answer) as (λ v. Changed h ((if v then Accepts k w else Ignores k w) ∷ h) 0 (up_weight b)) [
  | true ↦ one_accepted k h w b ws is light
  | false ↦ one_ignored k h w b ws is light
]
heard_alone k h w b ws answer says (Some d) is light = one_reverted k h w b ws d is light

pub one_heard : (k q : ℕ) (h : List ProcessEvent) (w : Written) (b : UpBundle) (ws : List Written) (answer : Answer) (says : List Saying) (o : Option DownBundle) → IsUpFirst w b ws h → Light h
    → Changed h ((ends q says ++ heard k w answer says o) ++ h) (down_out o) (up_weight b)
one_heard k q h w b ws answer says o is light =
    subst (λ (es : List ProcessEvent). Changed h es (down_out o) (up_weight b)) (sym (append_assoc (ends q says) (heard k w answer says o) h))
    (ends_still (list_any (is_end_of q) says) (heard k w answer says o ++ h) h (down_out o) (up_weight b) (heard_alone k h w b ws answer says o is light))
