-- What a process does of its own accord: why it is refused, what it comes to, and what it sends.
use Rattle.std.specs.Prelude.{ℕ, ◌+◌, ◌==◌, false, not, List, [], ◌∷◌}
use Rattle.std.specs.Prelude.{filter, Option, None, Some, is_none, unwrap_or}
use Rattle.std.specs.Option.{option_map_or}
use Rattle.fission_ids.specs.declared.context.ContextId.{ContextId}
use Rattle.field_table.specs.declared.field.Field.{Field}
use Rattle.field_table.specs.declared.value.Value.{Value}
use Rattle.field_table.specs.declared.value.Value.TheVariants.{Flag}
use Rattle.transaction.specs.Transaction.{Changes, new_value}
use Rattle.field_rules.specs.Rules.{Question, is_denied}
use Rattle.wire_msgs.specs.declared.action.Action.{Action}
use Rattle.wire_msgs.specs.declared.action.Action.TheVariants as actions
use Rattle.wire_msgs.specs.declared.answer.Answer.{Answer}
use Rattle.wire_msgs.specs.declared.answer.Answer.TheVariants as answers
use Rattle.wire_msgs.specs.declared.part.UpPart.{UpPart}
use Rattle.wire_msgs.specs.declared.part.UpPart.TheVariants as ups
use Rattle.wire_msgs.specs.declared.refusal.Refusal.{Refusal}
use Rattle.wire_msgs.specs.declared.refusal.Refusal.TheVariants as refusals
use Rattle.wire_msgs.specs.declared.refusal.Counted.TheVariants as counted
use Rattle.protocol.specs.Seen.{Seen, Doing}
use Rattle.protocol.specs.Seen.Doing.{Framed, Went, Wrote}
use Rattle.protocol.specs.Questions.{option_any}
use Rattle.protocol.specs.Hear.{modified_fields}
use Rattle.protocol.specs.Fold.{behind_all}
use Rattle.protocol.specs.Take.{Step}
use Rattle.protocol.specs.ParentActs.{refused_if, denial_refused}

-- what is asked of a process's own write of a field
abbrev pub question_of_own : ℕ → Seen → ContextId → Field → Value → Question
question_of_own p s x fld v = record {
  field = fld;
  value = v;
  context = x;
  top = is_none (s.above x);
  window = None;  -- there are no windows yet
  from = Some (record { 0 = p });
  owner_is_sender = s.owns x;
}

-- the context of a process's next frame
abbrev pub next_frame : ℕ → Seen → ContextId
next_frame p s = record { creator = p + 1; serial = s.frames_made + 1 }

-- the modified fields that a process may not write so, as far as it knows
abbrev pub denied_to_process : ℕ → Seen → ContextId → Changes → List Field
denied_to_process p s x t =
    filter (λ fld. is_denied (question_of_own p s x fld (unwrap_or (new_value t fld) (Flag false))))
    (modified_fields t)

-- why an action is refused
unfoldable pub refusal : ℕ → Seen → Action → Option Refusal
refusal p s (actions.Set x t) =
    refused_if (not s.running) refusals.Stopped
    (refused_if (not (s.holds x)) refusals.NoContext (denial_refused (denied_to_process p s x t)))
refusal p s (actions.Frame x) =
    refused_if (not s.running) refusals.Stopped
    (refused_if (not (s.holds x)) refusals.NoContext
    (refused_if (not (s.owns x)) refusals.NotMine
    (refused_if (s.frames_made == 240) (refusals.TooMany counted.Contexts 240) None)))
refusal p s (actions.Drop x) =
    refused_if (not s.running) refusals.Stopped
    (refused_if (not (s.holds x)) refusals.NoContext
    (refused_if (not (option_any s.owns (s.above x))) refusals.NotMine None))
refusal p s _ = None  -- navigation, windows and queries aren't played yet

-- what an action comes to
unfoldable pub says : ℕ → Seen → Action → List Doing
says p s (actions.Set x t) = Wrote x t ∷ []
says p s (actions.Frame x) = Framed (next_frame p s) x ∷ []
says p s (actions.Drop x) = Went x ∷ []
says p s _ = []

-- the answer to an action that isn't refused
unfoldable pub answer : ℕ → Seen → Action → Answer
answer p s (actions.Frame x) = answers.Context (next_frame p s)
answer p s _ = answers.Done

-- what an action has the process send
unfoldable pub posts : ℕ → Seen → Action → List UpPart
posts p s (actions.Set x t) = ups.Commit x t ∷ []
posts p s (actions.Frame x) = ups.Create (next_frame p s) x ∷ []
posts p s (actions.Drop x) = ups.Drop x ∷ []
posts p s _ = []

-- ---- a whole action

module _ {Kept : Type 0} (seen : Kept → Seen) (next : Doing → Kept → Kept) where
  -- an action of process p; a refused one changes and sends nothing
  abbrev pub action_step : ℕ → Action → Kept → Step Kept
  action_step p action s =
      option_map_or (λ why. record { answer = answers.Refused why; kept = s; sends = [] })
      (refusal p (seen s) action)
      (record {
        answer = answer p (seen s) action;
        kept = behind_all next (says p (seen s) action) s;
        sends = posts p (seen s) action;
      })
