-- What the parent does of its own accord: why it is refused, what it comes to, and what it sends.
use Rattle.std.specs.Prelude.{ℕ, ◌+◌, ◌==◌, ◌&&◌, Bool, false, not, if◌then◌else◌, List, [], ◌∷◌, map, filter}
use Rattle.std.specs.Prelude.{Option, None, Some, is_none, is_some, unwrap_or}
use Rattle.std.specs.Option.{option_map_or}
use Rattle.fission_ids.specs.declared.context.ContextId.{ContextId}
use Rattle.fission_ids.specs.declared.group.GroupId.{GroupId}
use Rattle.field_table.specs.declared.value.Value.{Value}
use Rattle.field_table.specs.declared.value.Value.TheVariants.{Flag}
use Rattle.field_table.specs.declared.field.Field.{Field}
use Rattle.field_table.specs.Field.{fields}
use Rattle.transaction.specs.Transaction.{Changes, new_value}
use Rattle.wire_msgs.specs.declared.action.ParentAction.{ParentAction}
use Rattle.wire_msgs.specs.declared.action.ParentAction.TheVariants as actions
use Rattle.wire_msgs.specs.declared.answer.Answer.{Answer}
use Rattle.wire_msgs.specs.declared.answer.Answer.TheVariants as answers
use Rattle.wire_msgs.specs.declared.cause.EndCause.TheVariants.{Killed}
use Rattle.wire_msgs.specs.declared.part.DownPart.{DownPart}
use Rattle.wire_msgs.specs.declared.part.DownPart.TheVariants as downs
use Rattle.wire_msgs.specs.declared.part.Known.{Known}
use Rattle.wire_msgs.specs.declared.refusal.Refusal.{Refusal}
use Rattle.wire_msgs.specs.declared.refusal.Refusal.TheVariants as refusals
use Rattle.wire_msgs.specs.declared.refusal.Counted.TheVariants as counted
use Rattle.field_rules.specs.Rules.{Question, is_denied}
use Rattle.protocol.specs.Questions.{Facts, option_any, is_subscribed, is_told, is_owner}
use Rattle.protocol.specs.Hear.{modified_fields, set_of_fields}
use Rattle.protocol.specs.Fold.{behind_all}
use Rattle.protocol.specs.Order.{in_order}
use Rattle.protocol.specs.Bundle.{Ruling, ruling}
use Rattle.protocol.specs.Sayings.{Saying}
use Rattle.protocol.specs.Sayings.Saying.{Opened, Removed, Wrote, Subscribed, Ended}

-- the group that a new tab is in: the one that is named, or a new one
abbrev pub group_of_tab : Facts → Option GroupId → GroupId
group_of_tab f named = unwrap_or named (record { 0 = f.groups.made + 1 })

-- the context of a new tab
abbrev pub context_of_tab : Facts → ContextId
context_of_tab f = record { creator = 0; serial = f.tabs_made + 1 }

-- what is asked of the parent's write of a field
abbrev pub question_of_parent : Facts → ContextId → Field → Value → Question
question_of_parent f x fld v = record {
  field = fld;
  value = v;
  context = x;
  top = is_none (f.contexts.above x);
  window = None;
  from = None;
  owner_is_sender = false;
}

-- the first refusal, of tests in their order
abbrev pub refused_if : Bool → Refusal → Option Refusal → Option Refusal
refused_if test why later = if test then Some why else later

-- the modified fields that the parent may not write so
abbrev pub denied_to_parent : Facts → ContextId → Changes → List Field
denied_to_parent f x t =
    filter (λ fld. is_denied (question_of_parent f x fld (unwrap_or (new_value t fld) (Flag false))))
    (modified_fields t)

-- the refusal of fields that may not be written, if there are any
abbrev pub denial_refused : List Field → Option Refusal
denial_refused [] = None
denial_refused (fld ∷ flds) = Some (refusals.Denied (set_of_fields (fld ∷ flds)))

-- why an action is refused
unfoldable pub refusal : Facts → ParentAction → Option Refusal
refusal f (actions.Set x t) =
    refused_if (not (f.contexts.live x)) refusals.NoContext (denial_refused (denied_to_parent f x t))
refusal f (actions.Tab p named) =
    refused_if (is_some (f.processes.ended p.0)) refusals.NoProcess
    (refused_if (option_any (λ g. not (f.groups.kept g)) named) refusals.NoGroup
    (refused_if (is_none named && f.groups.made == 64) (refusals.TooMany counted.Groups 64)
    (refused_if (f.tabs_made == 240) (refusals.TooMany counted.Contexts 240) None)))
refusal f (actions.Subscribe p g) =
    refused_if (is_some (f.processes.ended p.0)) refusals.NoProcess
    (refused_if (not (f.groups.kept g)) refusals.NoGroup None)
refusal f (actions.Discard x) = refused_if (not (f.contexts.live x)) refusals.NoContext None
refusal f (actions.Kill p) = refused_if (is_some (f.processes.ended p.0)) refusals.NoProcess None
refusal f _ = None  -- navigation, windows and queries aren't played yet

-- what an action comes to, the first saying first
unfoldable pub says : Facts → ParentAction → List Saying
says f (actions.Set x t) = Wrote x t ∷ []
says f (actions.Tab p named) =
    let g = group_of_tab f named in
    Opened (context_of_tab f) g (is_none named) p.0
    ∷ (if is_subscribed f p.0 g then [] else Subscribed p.0 g ∷ [])
says f (actions.Subscribe p g) = if is_subscribed f p.0 g then [] else Subscribed p.0 g ∷ []
says f (actions.Discard x) = Removed x None ∷ []
says f (actions.Kill p) = Ended p.0 Killed ∷ []
says f _ = []

-- the answer to an action that isn't refused
unfoldable pub answer : Facts → ParentAction → Answer
answer f (actions.Tab p named) = answers.Tab (group_of_tab f named) (context_of_tab f)
answer f _ = answers.Done

-- a live context, as a process is told of it
abbrev pub known_of : Facts → ℕ → ContextId → Known
known_of f q x = record {
  context = x;
  group = unwrap_or (f.contexts.group x) (record { 0 = 0 });
  parent = f.contexts.above x;
  owned = is_owner f q x;
  fields = map (λ fld. unwrap_or (f.contexts.value x fld) (Flag false)) fields;
}

-- whether two groups are one
abbrev pub same_group : GroupId → GroupId → Bool
same_group g h = g.0 == h.0

-- the live contexts of a group, as a new subscriber is told of them
abbrev pub register_of : Facts → ℕ → GroupId → DownPart
register_of f q g =
    downs.Register g (map (known_of f q) (filter (λ x. option_any (same_group g) (f.contexts.group x))
    f.contexts.order))

-- what process q is sent by an action, told over what is asked before it and behind it
unfoldable pub posts : Facts → Facts → ParentAction → ℕ → List DownPart
posts f behind (actions.Set x t) q = if is_told f q x then downs.Commit x t ∷ [] else []
posts f behind (actions.Tab p named) q =
    let g = group_of_tab f named in
    if is_subscribed f q g then downs.Create (known_of behind q (context_of_tab f)) ∷ []
    else if q == p.0 then register_of behind q g ∷ []
    else []
posts f behind (actions.Subscribe p g) q =
    if q == p.0 && not (is_subscribed f q g) then register_of behind q g ∷ [] else []
posts f behind (actions.Discard x) q = if is_told f q x then downs.Discard x ∷ [] else []
posts f behind (actions.Kill p) q = if q == p.0 then downs.Kill ∷ [] else []
posts f behind _ q = []

-- ---- a whole action

module _ {Kept : Type 0} (facts : Kept → Facts) (next : Saying → Kept → Kept) where
  -- an action that isn't refused, where there are n processes
  abbrev pub done_ruling : ℕ → ParentAction → Kept → Ruling Kept
  done_ruling n action s =
      let behind = behind_all next (says (facts s) action) s in
      ruling facts next n (answer (facts s) action) (λ q. in_order (posts (facts s) (facts behind) action q))
      behind

  -- an action; a refused one changes and sends nothing
  abbrev pub action_ruling : ℕ → ParentAction → Kept → Ruling Kept
  action_ruling n action s =
      option_map_or (λ why. ruling facts next n (answers.Refused why) (λ q. []) s) (refusal (facts s) action)
      (done_ruling n action s)
