-- What an event does to what waits on the links of a process.
use Rattle.std.proofs.Common.{◌≡◌, ℕ, suc, ◌+◌, ◌≤◌, Bool, true, false, if◌then◌else◌, List, [], ◌∷◌, ◌++◌, length, map, drop, Option, None, Some, refl, ap, ◌∙◌, arith}
use Rattle.std.specs.List.{list_any}
use Rattle.std.proofs.lemmas.List.{map-append}
use Rattle.wire_msgs.specs.declared.answer.Answer.{Answer}
use Rattle.wire_msgs.specs.declared.answer.Answer.TheVariants.{Ended as EndedBy}
use Rattle.wire_msgs.specs.declared.bundle.DownBundle.{DownBundle}
use Rattle.wire_msgs.specs.declared.bundle.UpBundle.{UpBundle}
use Rattle.protocol.specs.Sayings.{Saying}
use Rattle.protocol.specs.Seen.{Seen, Doing}
use Rattle.protocol.specs.Seen.Doing.{Framed, Went}
use Rattle.traces.specs.Event.{Bundle}
use Rattle.traces.specs.Event.Event.{Writes, Accepts, Ignores, Ends}
use Rattle.traces.specs.Links.{writes, writes_waiting, hears, bundles_sent, bundles_waiting, takes}
use Rattle.model.specs.Moments.{Written, ProcessEvent, is_end_of, ends, written, deeds, told, is_done, heard}
use Rattle.model.specs.Moments.Written.{Own, Raw, Said}
use Rattle.model.specs.Links.{bundles_in}
use Rattle.world.proofs.Lists.{with_one, cut_with, cut_more}

-- what waits on the links of these events
abbrev pub ups_in : List ProcessEvent → List UpBundle
ups_in h = bundles_in (writes_waiting h)

abbrev pub contents : List (Bundle DownBundle) → List DownBundle
contents ds = map (λ b. b.content) ds

abbrev pub downs_in : List ProcessEvent → List DownBundle
downs_in h = contents (bundles_waiting h)

-- no more was heard than written, nor taken than sent
pub record Behind (h : List ProcessEvent) : Type 0 where
  pub up : hears h ≤ length (writes h)
  pub down : takes h ≤ length (bundles_sent h)

-- ---- a process writes

bundles_append : (ws vs : List Written) → bundles_in (ws ++ vs) ≡ bundles_in ws ++ bundles_in vs
bundles_append [] vs = refl
bundles_append (Own b ∷ ws) vs = ap (λ bs. b ∷ bs) (bundles_append ws vs)
bundles_append (Raw b ∷ ws) vs = ap (λ bs. b ∷ bs) (bundles_append ws vs)
bundles_append (Said says ∷ ws) vs = bundles_append ws vs

-- a write waits behind all else
pub up_wrote : (w : Written) (h : List ProcessEvent) → Behind h → ups_in (Writes w ∷ h) ≡ ups_in h ++ bundles_in (w ∷ [])
up_wrote w h fine = ap bundles_in (cut_with (hears h) (writes h) w fine.up) ∙ bundles_append (writes_waiting h) (w ∷ [])

-- what a process sends
pub up_written : (o : Option UpBundle) (h : List ProcessEvent) → Behind h → ups_in (written o ++ h) ≡ with_one o (ups_in h)
up_written None h fine = refl
up_written (Some b) h fine = up_wrote (Own b) h fine

pub down_written : (o : Option UpBundle) (h : List ProcessEvent) → downs_in (written o ++ h) ≡ downs_in h
down_written None h = refl
down_written (Some b) h = refl

-- what it makes and drops by itself isn't on a link
up_deeds : (s : Seen) (did : List Doing) (h : List ProcessEvent) → ups_in (deeds s did ++ h) ≡ ups_in h
up_deeds s [] h = refl
up_deeds s (Framed x above ∷ did) h = up_deeds s did h
up_deeds s (Went x ∷ did) h = up_deeds s did h
up_deeds s (_ ∷ did) h = up_deeds s did h

down_deeds : (s : Seen) (did : List Doing) (h : List ProcessEvent) → downs_in (deeds s did ++ h) ≡ downs_in h
down_deeds s [] h = refl
down_deeds s (Framed x above ∷ did) h = down_deeds s did h
down_deeds s (Went x ∷ did) h = down_deeds s did h
down_deeds s (_ ∷ did) h = down_deeds s did h

behind_deeds : (s : Seen) (did : List Doing) (h : List ProcessEvent) → Behind h → Behind (deeds s did ++ h)
behind_deeds s [] h fine = fine
behind_deeds s (Framed x above ∷ did) h fine = let rest : Behind (deeds s did ++ h) = behind_deeds s did h fine in record { up = rest.up; down = rest.down }
behind_deeds s (Went x ∷ did) h fine = let rest : Behind (deeds s did ++ h) = behind_deeds s did h fine in record { up = rest.up; down = rest.down }
behind_deeds s (_ ∷ did) h fine = behind_deeds s did h fine

-- so it sends what it sends
pub up_acted : (o : Option UpBundle) (s : Seen) (did : List Doing) (h : List ProcessEvent) → Behind h → ups_in ((written o ++ deeds s did) ++ h) ≡ with_one o (ups_in h)
up_acted None s did h fine = up_deeds s did h
up_acted (Some b) s did h fine = up_wrote (Own b) (deeds s did ++ h) (behind_deeds s did h fine) ∙ ap (λ bs. bs ++ b ∷ []) (up_deeds s did h)

pub down_acted : (o : Option UpBundle) (s : Seen) (did : List Doing) (h : List ProcessEvent) → downs_in ((written o ++ deeds s did) ++ h) ≡ downs_in h
down_acted None s did h = down_deeds s did h
down_acted (Some b) s did h = down_deeds s did h

-- ---- the parent sends

sent_last : (k epoch : ℕ) (d : DownBundle) (h : List ProcessEvent) → Behind h
    → contents (drop (takes h) (bundles_sent h ++ record { entry = k; epoch = epoch; content = d } ∷ [])) ≡ downs_in h ++ d ∷ []
sent_last k epoch d h fine =
    let sent : Bundle DownBundle = record { entry = k; epoch = epoch; content = d } in
    ap contents (cut_with (takes h) (bundles_sent h) sent fine.down) ∙ map-append (λ (b : Bundle DownBundle). b.content) (bundles_waiting h) (sent ∷ [])

pub down_told : (k : ℕ) (says : List Saying) (o : Option DownBundle) (h : List ProcessEvent) → Behind h → downs_in (told k says o ∷ h) ≡ with_one o (downs_in h)
down_told k says None h fine = refl
down_told k says (Some d) h fine = sent_last k (hears h) d h fine

pub up_told : (k : ℕ) (says : List Saying) (o : Option DownBundle) (h : List ProcessEvent) → ups_in (told k says o ∷ h) ≡ ups_in h
up_told k says None h = refl
up_told k says (Some d) h = refl

-- the end of a process leaves its links
pub up_ends : (q : ℕ) (says : List Saying) (evs h : List ProcessEvent) → ups_in ((ends q says ++ evs) ++ h) ≡ ups_in (evs ++ h)
up_ends q says evs h = by (list_any (is_end_of q) says)
  where
    by : (b : Bool) → ups_in (((if b then Ends ∷ [] else []) ++ evs) ++ h) ≡ ups_in (evs ++ h)
    by true = refl
    by false = refl

pub down_ends : (q : ℕ) (says : List Saying) (evs h : List ProcessEvent) → downs_in ((ends q says ++ evs) ++ h) ≡ downs_in (evs ++ h)
down_ends q says evs h = by (list_any (is_end_of q) says)
  where
    by : (b : Bool) → downs_in (((if b then Ends ∷ [] else []) ++ evs) ++ h) ≡ downs_in (evs ++ h)
    by true = refl
    by false = refl

-- ---- the parent hears

heard_less : (w : Written) (rest : List Written) (h : List ProcessEvent) → writes_waiting h ≡ w ∷ rest → drop (hears h + 1) (writes h) ≡ rest
heard_less w rest h waits = let one : hears h + 1 ≡ suc (hears h) = omega arith in ap (λ n. drop n (writes h)) one ∙ cut_more (hears h) (writes h) w rest waits

pub up_heard : (k : ℕ) (w : Written) (a : Answer) (says : List Saying) (o : Option DownBundle) (rest : List Written) (h : List ProcessEvent)
    → writes_waiting h ≡ w ∷ rest → writes_waiting (heard k w a says o ++ h) ≡ rest
up_heard k w (EndedBy cause) says None rest h waits = heard_less w rest h waits
up_heard k w (EndedBy cause) says (Some d) rest h waits = heard_less w rest h waits
up_heard k w a says None rest h waits = by (is_done a)
  where
    by : (t : Bool) → writes_waiting ((if t then Accepts k w else Ignores k w) ∷ h) ≡ rest
    by true = heard_less w rest h waits
    by false = heard_less w rest h waits
up_heard k w a says (Some d) rest h waits = heard_less w rest h waits

pub down_heard : (k : ℕ) (w : Written) (a : Answer) (says : List Saying) (o : Option DownBundle) (h : List ProcessEvent) → Behind h
    → downs_in (heard k w a says o ++ h) ≡ with_one o (downs_in h)
down_heard k w (EndedBy cause) says None h fine = refl
down_heard k w (EndedBy cause) says (Some d) h fine = sent_last k (hears h + 1) d h fine
down_heard k w a says None h fine = by (is_done a)
  where
    by : (t : Bool) → downs_in ((if t then Accepts k w else Ignores k w) ∷ h) ≡ downs_in h
    by true = refl
    by false = refl
down_heard k w a says (Some d) h fine = sent_last k (hears h + 1) d h fine
