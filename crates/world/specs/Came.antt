-- What a step comes to, and what there is behind it.
use Rattle.std.specs.Prelude.{ℕ, if◌then◌else◌, ◌∷◌, List, [], Option, Some, slice_set}
use Rattle.field_rules.specs.Bounds.{Bounds}
use Rattle.wire_msgs.specs.declared.action.Action.{Action}
use Rattle.wire_msgs.specs.declared.action.ParentAction.{ParentAction}
use Rattle.wire_msgs.specs.declared.answer.Answer.{Answer}
use Rattle.wire_msgs.specs.declared.answer.Answer.TheVariants.{Done, Refused}
use Rattle.wire_msgs.specs.declared.bundle.DownBundle.{DownBundle}
use Rattle.wire_msgs.specs.declared.bundle.UpBundle.{UpBundle}
use Rattle.wire_msgs.specs.declared.refusal.Refusal.TheVariants.{Stopped, Empty}
use Rattle.journal.specs.declared.entry.Step.{Step}
use Rattle.journal.specs.declared.entry.Step.TheVariants.{Act, Take, Raw, ParentAct, Hear}
use Rattle.protocol.specs.Questions.{Facts}
use Rattle.protocol.specs.FactsAfter.{facts_after}
use Rattle.protocol.specs.Bundle.{Ruling, bundle_ruling}
use Rattle.protocol.specs.Outside.{allowed_of}
use Rattle.protocol.specs.ParentActs.{action_ruling}
use Rattle.protocol.specs.Start.{numbers}
use Rattle.parent_core.specs.Ruled.{bundles_of}
use Rattle.world.specs.Sides.{Side, runs_at, step_of_action, step_of_bundle, sides_after, sent_by}
use Rattle.world.specs.Sides.{ups_after, waiting_at, delivered}

-- the parent's answers, the processes, and the links from and to them
pub record State : Type 0 where
  pub facts : Facts
  pub sides : List (Option Side)
  pub ups : List (List UpBundle)
  pub downs : List (List DownBundle)

-- an answer, and what there is behind it
pub record Came : Type 0 where
  pub answer : Answer
  pub state : State

-- process p acts
abbrev pub acted : ℕ → Action → State → Came
acted p action s =
    let step = step_of_action p action s.sides in
    record {
      answer = step.answer;
      state = record s { sides = sides_after p step s.sides; ups = ups_after p (sent_by step) s.ups };
    }

-- process p takes the bundle that waited first of these
abbrev pub taken : ℕ → List DownBundle → State → Came
taken p [] s = record { answer = Refused Empty; state = s }
taken p (b ∷ bs) s =
    let step = step_of_bundle p b s.sides in
    record {
      answer = step.answer;
      state = record s {
        sides = sides_after p step s.sides;
        ups = ups_after p (sent_by step) s.ups;
        downs = slice_set s.downs p bs;
      };
    }

-- process p sends a bundle that is none of its own acts
abbrev pub raw_sent : ℕ → UpBundle → State → Came
raw_sent p b s = record { answer = Done; state = record s { ups = ups_after p (Some b) s.ups } }

-- a step of process p, unless it stopped
abbrev pub if_running : ℕ → State → Came → Came
if_running p s k = if runs_at p s.sides then k else record { answer = Refused Stopped; state = s }

-- the parent rules, where there are n processes
abbrev pub ruled : ℕ → Ruling Facts → State → Came
ruled n rule s = record {
  answer = rule.answer;
  state = record s { facts = rule.kept; downs = delivered (bundles_of rule (numbers 0 n)) s.downs };
}

-- the parent acts
abbrev pub parent_acted : ℕ → ParentAction → State → Came
parent_acted n action s = ruled n (action_ruling (λ f. f) facts_after n action s.facts) s

-- the parent hears the bundle of process p that waited first of these, by the bounds of the rule functions
abbrev pub heard : Bounds → ℕ → ℕ → List UpBundle → State → Came
heard bounds n p [] s = record { answer = Refused Empty; state = s }
heard bounds n p (b ∷ bs) s =
    ruled n (bundle_ruling (λ f. f) facts_after n (allowed_of bounds b) p b s.facts)
    (record s { ups = slice_set s.ups p bs })

-- what a step comes to, where there are n processes
abbrev pub came : Bounds → ℕ → Step → State → Came
came bounds n (Act p action) s = acted p.0 action s
came bounds n (Take p) s = if_running p.0 s (taken p.0 (waiting_at p.0 s.downs) s)
came bounds n (Raw p b) s = if_running p.0 s (raw_sent p.0 b s)
came bounds n (ParentAct action) s = parent_acted n action s
came bounds n (Hear p) s = heard bounds n p.0 (waiting_at p.0 s.ups) s
