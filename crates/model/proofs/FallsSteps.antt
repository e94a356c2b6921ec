-- What each step has the links of every process come to.
use Rattle.std.proofs.Common.{◌≡◌, ℕ, ◌+◌, ◌==◌, Bool, true, false, if◌then◌else◌, List, [], ◌∷◌, ◌++◌, length, Option, refl, sym, subst, arith}
use Rattle.std.proofs.lemmas.Bool.{eqb-true}
use Rattle.field_table.specs.declared.field.Field.{Field}
use Rattle.wire_msgs.specs.declared.action.Action.{Action}
use Rattle.wire_msgs.specs.declared.action.ParentAction.{ParentAction}
use Rattle.wire_msgs.specs.declared.answer.Answer.{Answer}
use Rattle.wire_msgs.specs.declared.bundle.UpBundle.{UpBundle}
use Rattle.wire_msgs.specs.declared.bundle.DownBundle.{DownBundle}
use Rattle.wire_msgs.specs.declared.config.Config.{Config}
use Rattle.journal.specs.declared.entry.Step.TheVariants.{ParentAct}
use Rattle.protocol.specs.Bundle.{Ruling, bundle_ruling}
use Rattle.protocol.specs.OwnActs.{action_step}
use Rattle.protocol.specs.ParentActs.{action_ruling}
use Rattle.protocol.specs.Questions.{Facts}
use Rattle.protocol.specs.Sayings.{Saying}
use Rattle.protocol.specs.Seen.{Seen, Doing}
use Rattle.protocol.specs.Take.{bundle_step, bundle_sent}
use Rattle.traces.specs.Event.{Bundle}
use Rattle.traces.specs.Event.Event.{Writes, Takes}
use Rattle.traces.specs.Links.{writes_waiting, bundles_waiting}
use Rattle.model.specs.Moments.{Moment, Written, ProcessEvent, said, did_by, moment, events_of, for_one, written, deeds, only_answer, act_moment, raw_moment, ends, told, sent_to, heard, bundle_moment, heard_moment, taken_moment}
use Rattle.model.specs.Moments.Written.{Own, Raw}
use Rattle.model.specs.Parent.{asked}
use Rattle.model.specs.Process.{own_asked}
use Rattle.model.specs.Settling.{up_weight, down_weight}
use Rattle.model.proofs.WeightsSums.{at_one}
use Rattle.model.proofs.WeightsLinks.{IsUpFirst, Light, Changed, up_out, down_out, unchanged, weaker, one_act, one_raw, one_told, one_taken, one_heard, own_first, raw_first}
use Rattle.model.proofs.WeightsParts.{action_little}

-- so far no more was heard or taken than was sent
abbrev pub Lights : List Moment → Type 0
Lights ms = (q : ℕ) → Light (events_of q ms)

-- each process's links rise and fall by so much with a step
abbrev pub EachChanged : List Moment → Moment → (ℕ → ℕ) → (ℕ → ℕ) → Type 0
EachChanged ms m more less = (q : ℕ) → Changed (events_of q ms) (events_of q (m ∷ ms)) (more q) (less q)

-- events of one process alone
one_alone : (p : ℕ) (xs : List ProcessEvent) (h : ℕ → List ProcessEvent) (more less : ℕ) → ((q : ℕ) → Light (h q)) → Changed (h p) (xs ++ h p) more less → (q : ℕ)
    → Changed (h q) (for_one p xs q ++ h q) (at_one p more q) (at_one p less q)
one_alone p xs h more less lights changed q = elim (q == p) as (λ b. (q == p) ≡ b → Changed (h q) ((if b then xs else []) ++ h q) (if b then more else 0) (if b then less else 0)) [
  | true ↦ λ same. subst (λ x. Changed (h x) (xs ++ h x) more less) (sym (eqb-true q p same)) changed
  | false ↦ λ _. unchanged (h q) (lights q)
] refl

pub none_waited : (ms : List Moment) (a : Answer) → Lights ms → EachChanged ms (only_answer a) (λ q. 0) (λ q. 0)
none_waited ms a lights q = unchanged (events_of q ms) (lights q)

-- what a process sends as it acts, and as it takes a bundle
abbrev pub act_sends : Config → ℕ → Action → List Moment → Option UpBundle
act_sends c p action ms =
    let now : List Doing → Seen = λ did. own_asked c.tabs p (did ++ did_by p ms) in
    let step = action_step now (λ d did. d ∷ did) p action [] in
    bundle_sent (now step.kept) step.sends

abbrev pub take_sends : Config → ℕ → List Moment → DownBundle → Option UpBundle
take_sends c p ms b =
    let now : List Doing → Seen = λ did. own_asked c.tabs p (did ++ did_by p ms) in
    let step = bundle_step now (λ d did. d ∷ did) p b [] in
    bundle_sent (now step.kept) step.sends

pub act_changes : (c : Config) (p : ℕ) (action : Action) (ms : List Moment) → Lights ms → EachChanged ms (act_moment c p action ms) (at_one p (up_out (act_sends c p action ms))) (at_one p 0)
act_changes c p action ms lights q =
    let now : List Doing → Seen = λ did. own_asked c.tabs p (did ++ did_by p ms) in
    let step = action_step now (λ d did. d ∷ did) p action [] in
    one_alone p (written (bundle_sent (now step.kept) step.sends) ++ deeds (now step.kept) step.kept) (λ q. events_of q ms) (up_out (bundle_sent (now step.kept) step.sends)) 0 lights
    (one_act (bundle_sent (now step.kept) step.sends) (now step.kept) step.kept (events_of p ms) (lights p)) q

pub raw_changes : (c : Config) (p : ℕ) (b : UpBundle) (ms : List Moment) → Lights ms → EachChanged ms (raw_moment p b) (at_one p (up_weight b)) (at_one p 0)
raw_changes c p b ms lights q = one_alone p (Writes (Raw b) ∷ []) (λ q. events_of q ms) (up_weight b) 0 lights (one_raw b (events_of p ms) (lights p)) q

pub parent_changes : (c : Config) (action : ParentAction) (ms : List Moment) (allows : Field → Bool) → Lights ms → EachChanged ms (moment c ms allows (ParentAct action)) (λ q. 3) (λ q. 0)
parent_changes c action ms allows lights q =
    let facts : List Saying → Facts = λ says. asked c.tabs (says ++ said ms) in
    let rule : Ruling (List Saying) = action_ruling facts (λ y says. y ∷ says) (length c.types) action [] in
    weaker (events_of q ms) ((ends q rule.kept ++ told (length ms + 1) rule.kept (sent_to c ms rule q) ∷ []) ++ events_of q ms) (down_out (sent_to c ms rule q)) 0 3 0
    ((action_little facts (length c.types) action).each (facts rule.kept) q) (omega arith)
    (one_told (length ms + 1) q rule.kept (sent_to c ms rule q) (events_of q ms) (lights q))

pub take_changes : (c : Config) (p : ℕ) (ms : List Moment) (b : Bundle DownBundle) (bs : List (Bundle DownBundle)) → bundles_waiting (events_of p ms) ≡ b ∷ bs → Lights ms
    → EachChanged ms (taken_moment c p ms (b ∷ bs)) (at_one p (up_out (take_sends c p ms b.content))) (at_one p (down_weight b.content))
take_changes c p ms b bs first lights q =
    one_alone p (written (take_sends c p ms b.content) ++ Takes b ∷ []) (λ q. events_of q ms) (up_out (take_sends c p ms b.content)) (down_weight b.content) lights
    (one_taken (events_of p ms) b bs (take_sends c p ms b.content) first (lights p)) q

-- what the parent does with a bundle of process p
abbrev pub ruling_of : Config → ℕ → List Moment → (Field → Bool) → UpBundle → Ruling (List Saying)
ruling_of c p ms allows b = bundle_ruling (λ says. asked c.tabs (says ++ said ms)) (λ y says. y ∷ says) (length c.types) allows p b []

-- one that waited first
bundle_changes : (c : Config) (p : ℕ) (ms : List Moment) (allows : Field → Bool) (w : Written) (b : UpBundle) (ws : List Written) → IsUpFirst w b ws (events_of p ms) → Lights ms
    → EachChanged ms (bundle_moment c p ms allows w b) (λ q. down_out (sent_to c ms (ruling_of c p ms allows b) q)) (at_one p (up_weight b))
bundle_changes c p ms allows w b ws is lights q =
    let rule : Ruling (List Saying) = ruling_of c p ms allows b in
    elim (q == p) as (λ v. (q == p) ≡ v → Changed (events_of q ms) ((ends q rule.kept ++ (if v then heard (length ms + 1) w rule.answer rule.kept (sent_to c ms rule p) else told (length ms + 1) rule.kept (sent_to c ms rule q) ∷ [])) ++ events_of q ms) (down_out (sent_to c ms rule q)) (if v then up_weight b else 0)) [
      | true ↦ λ same. subst (λ x. Changed (events_of x ms) ((ends x rule.kept ++ heard (length ms + 1) w rule.answer rule.kept (sent_to c ms rule p)) ++ events_of x ms) (down_out (sent_to c ms rule x)) (up_weight b)) (sym (eqb-true q p same))
          (one_heard (length ms + 1) p (events_of p ms) w b ws rule.answer rule.kept (sent_to c ms rule p) is (lights p))
      | false ↦ λ _. one_told (length ms + 1) q rule.kept (sent_to c ms rule q) (events_of q ms) (lights q)
    ] refl

pub hear_changes : (c : Config) (p : ℕ) (ms : List Moment) (allows : Field → Bool) (b : UpBundle) (ws : List Written) → writes_waiting (events_of p ms) ≡ Own b ∷ ws → Lights ms
    → EachChanged ms (heard_moment c p ms allows (Own b ∷ ws)) (λ q. down_out (sent_to c ms (ruling_of c p ms allows b) q)) (at_one p (up_weight b))
hear_changes c p ms allows b ws first lights q = bundle_changes c p ms allows (Own b) b ws (own_first (events_of p ms) b ws first) lights q

pub hear_raw_changes : (c : Config) (p : ℕ) (ms : List Moment) (allows : Field → Bool) (b : UpBundle) (ws : List Written) → writes_waiting (events_of p ms) ≡ Raw b ∷ ws → Lights ms
    → EachChanged ms (heard_moment c p ms allows (Raw b ∷ ws)) (λ q. down_out (sent_to c ms (ruling_of c p ms allows b) q)) (at_one p (up_weight b))
hear_raw_changes c p ms allows b ws first lights q = bundle_changes c p ms allows (Raw b) b ws (raw_first (events_of p ms) b ws first) lights q
