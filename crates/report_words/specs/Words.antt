-- The words of a report's line: what was done, and what it came to.
use Rattle.std.specs.Prelude.{ℕ, List, [], ◌∷◌, ◌++◌, codes}
use Rattle.std.specs.List.{flat_map}
use Rattle.fission_ids.specs.Ids.{context_text, query_text, group_text}
use Rattle.wire_msgs.specs.declared.action.Action.{Action}
use Rattle.wire_msgs.specs.declared.action.Action.TheVariants as actions
use Rattle.wire_msgs.specs.declared.action.ParentAction.{ParentAction}
use Rattle.wire_msgs.specs.declared.action.ParentAction.TheVariants as parents
use Rattle.wire_msgs.specs.declared.answer.Answer.{Answer}
use Rattle.wire_msgs.specs.declared.answer.Answer.TheVariants.{Done, Context, Tab, Query, Target, Parts}
use Rattle.wire_msgs.specs.declared.answer.Answer.TheVariants.{Ended, Ignored, Refused}
use Rattle.journal.specs.declared.entry.Step.{Step}
use Rattle.journal.specs.declared.entry.Step.TheVariants.{Act, Take, Raw, ParentAct, Hear}
use Rattle.report_words.specs.Pieces.{text_of_pieces, after_blank, process_text}
use Rattle.report_words.specs.Refusals.{refusal_text, cause_text}
use Rattle.report_words.specs.Notes.{note_text}

-- what a process does of its own accord
unfoldable pub action_text : Action → List ℕ
action_text (actions.Set x fields) = codes "set"
action_text (actions.Frame x) = codes "frame"
action_text (actions.Drop x) = codes "drop"
action_text (actions.Close w) = codes "close"
action_text (actions.Navigate x url) = codes "navigate"
action_text (actions.Tell w actor text) = codes "tell"
action_text (actions.Ask w actor text) = codes "ask"
action_text (actions.Answer q resolve text) = codes "answer"

-- what the parent does of its own accord
unfoldable pub parent_action_text : ParentAction → List ℕ
parent_action_text (parents.Set x fields) = codes "set"
parent_action_text (parents.Tab owner group) = codes "tab"
parent_action_text (parents.Subscribe process group) = codes "subscribe"
parent_action_text (parents.Discard x) = codes "discard"
parent_action_text (parents.Navigate x url) = codes "navigate"
parent_action_text (parents.Tell w actor text) = codes "tell"
parent_action_text (parents.Ask w actor text) = codes "ask"
parent_action_text (parents.Answer q resolve text) = codes "answer"
parent_action_text (parents.Kill process) = codes "kill"

-- who acted, and what was done
unfoldable pub step_text : Step → List ℕ
step_text (Act p action) = text_of_pieces (process_text p ∷ codes " " ∷ action_text action ∷ [])
step_text (Take p) = process_text p ++ codes " take"
step_text (Raw p bundle) = process_text p ++ codes " raw"
step_text (ParentAct action) = codes "parent " ++ parent_action_text action
step_text (Hear p) = codes "parent hear " ++ process_text p

-- what a step came to
unfoldable pub answer_text : Answer → List ℕ
answer_text Done = codes "ok"
answer_text (Context x) = codes "ok " ++ context_text x
answer_text (Tab g x) = text_of_pieces (codes "ok " ∷ group_text g ∷ codes " " ∷ context_text x ∷ [])
answer_text (Query q) = codes "ok " ++ query_text q
answer_text (Target p) = codes "ok " ++ process_text p
answer_text (Parts notes) = codes "ok" ++ flat_map (λ note. after_blank (note_text note)) notes
answer_text (Ended cause) = codes "ended " ++ cause_text cause
answer_text Ignored = codes "ignored"
answer_text (Refused why) = refusal_text why
