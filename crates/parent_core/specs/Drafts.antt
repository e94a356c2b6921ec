-- Judging the parts of a bundle with nothing changed. What the earlier parts came to is told by a draft: the
-- frames that they made and the contexts that they took away, the newest first. Each question is answered by
-- the draft and by the parent's answers before the bundle.
use Rattle.std.specs.Prelude.{ℕ, Bool, true, not, ◌&&◌, ◌||◌, if◌then◌else◌, List, [], ◌∷◌}
use Rattle.std.specs.Prelude.{Option, None, Some, is_none}
use Rattle.fission_ids.specs.declared.any_id.AnyId.TheVariants as ids
use Rattle.fission_ids.specs.declared.context.ContextId.{ContextId}
use Rattle.fission_ids.specs.Ids.{same_context}
use Rattle.transaction.specs.Transaction.{Changes}
use Rattle.wire_msgs.specs.declared.bundle.UpBundle.{UpBundle}
use Rattle.wire_msgs.specs.declared.cause.EndCause.{EndCause}
use Rattle.wire_msgs.specs.declared.cause.EndCause.TheVariants.{BadId}
use Rattle.wire_msgs.specs.declared.part.UpPart.{UpPart}
use Rattle.wire_msgs.specs.declared.part.UpPart.TheVariants as ups
use Rattle.protocol.specs.Questions.{Facts, option_any, is_owner, is_told}
use Rattle.protocol.specs.Sayings.Saying.{Counted}
use Rattle.protocol.specs.Fold.{or_later}
use Rattle.protocol.specs.FactsAfter.{facts_after}
use Rattle.protocol.specs.Hear.{denial, is_new_frame}
use Rattle.protocol.specs.Bundle.{is_counted}
use Rattle.parent_core.specs.Writes.{denied_from}
use Rattle.parent_core.specs.declared.drafts.Step.{Step}
use Rattle.parent_core.specs.declared.drafts.Step.TheVariants.{Made, Gone}

-- ---- questions, behind a draft

abbrev pub known_in : Facts → ContextId → List Step → Bool
known_in f x [] = f.contexts.known x
known_in f x (Made y above live ∷ older) = if same_context x y then true else known_in f x older
known_in f x (Gone y ∷ older) = known_in f x older

abbrev pub above_in : Facts → ContextId → List Step → Option ContextId
above_in f x [] = f.contexts.above x
above_in f x (Made y above live ∷ older) = if same_context x y then Some above else above_in f x older
above_in f x (Gone y ∷ older) = above_in f x older

-- whether a context is another or below it, where it is live
abbrev pub below_in : Facts → ContextId → ContextId → List Step → Bool
below_in f x z [] = f.contexts.under x z
below_in f x z (Made y above live ∷ older) =
    if same_context x y then same_context x z || below_in f above z older else below_in f x z older
below_in f x z (Gone y ∷ older) = below_in f x z older

abbrev pub live_in : Facts → ContextId → List Step → Bool
live_in f x [] = f.contexts.live x
live_in f x (Made y above live ∷ older) = if same_context x y then live else live_in f x older
live_in f x (Gone y ∷ older) = live_in f x older && not (below_in f x y older)

-- whether the process is told of a context
abbrev pub told_in : Facts → ℕ → ContextId → List Step → Bool
told_in f p x [] = is_told f p x
told_in f p x (Made y above live ∷ older) =
    if same_context x y then told_in f p above older else told_in f p x older
told_in f p x (Gone y ∷ older) = told_in f p x older

-- whether the process owns a context, where it is live
abbrev pub owner_in : Facts → ℕ → ContextId → List Step → Bool
owner_in f p x [] = is_owner f p x
owner_in f p x (Made y above live ∷ older) = if same_context x y then true else owner_in f p x older
owner_in f p x (Gone y ∷ older) = owner_in f p x older

-- ---- the parts

-- whether a frame in a context would be live
abbrev pub takes_frame : Facts → ℕ → ContextId → List Step → Bool
takes_frame f p above draft = live_in f above draft && owner_in f p above draft

-- whether a context that is known may be dropped
abbrev pub may_drop_in : Facts → ℕ → ContextId → List Step → Bool
may_drop_in f p x draft =
    option_any (λ above. not (live_in f x draft) || owner_in f p above draft) (above_in f x draft)

-- why a frame in a context ends its sender: its id isn't new, or the context was never made
abbrev pub create_fault : Facts → ℕ → ContextId → ContextId → List Step → Option EndCause
create_fault f p x above draft =
    if not (is_new_frame p x) || known_in f x draft then Some (BadId (ids.Context x))
    else if not (known_in f above draft) then Some (BadId (ids.Context above))
    else None

-- why the drop of a context does: it was never made, or isn't for the process to drop
abbrev pub drop_fault : Facts → ℕ → ContextId → List Step → Option EndCause
drop_fault f p x draft =
    if known_in f x draft && may_drop_in f p x draft then None else Some (BadId (ids.Context x))

-- why a commit does: it is judged, and writes fields that it may not write
abbrev pub commit_fault : Facts → ℕ → ContextId → Changes → List Step → Option EndCause
commit_fault f p x t draft =
    if live_in f x draft && told_in f p x draft
    then denial x (denied_from (Some (record { 0 = p })) x (is_none (above_in f x draft)) (is_owner f p x) t)
    else None

-- why a part ends its sender
unfoldable pub fault_in : Facts → ℕ → List Step → UpPart → Option EndCause
fault_in f p draft (ups.Create x above) = create_fault f p x above draft
fault_in f p draft (ups.Drop x) = drop_fault f p x draft
fault_in f p draft (ups.Commit x t) = commit_fault f p x t draft
fault_in f p draft _ = None

-- what a part makes or takes away
unfoldable pub step_in : Facts → ℕ → List Step → UpPart → Option Step
step_in f p draft (ups.Create x above) = Some (Made x above (takes_frame f p above draft))
step_in f p draft (ups.Drop x) = if live_in f x draft then Some (Gone x) else None
step_in f p draft _ = None

abbrev pub draft_with : Option Step → List Step → List Step
draft_with None draft = draft
draft_with (Some step) draft = step ∷ draft

-- why the first part that may not be sent so ends its sender, behind a draft
unfoldable pub first_fault_in : Facts → ℕ → List Step → List UpPart → Option EndCause
first_fault_in f p draft [] = None
first_fault_in f p draft (a ∷ parts) =
    or_later (fault_in f p draft a) (first_fault_in f p (draft_with (step_in f p draft a) draft) parts)

-- ---- the bundle

-- the answers behind the count of a bundle of process p, if it is counted
abbrev pub counted : ℕ → UpBundle → Facts → Facts
counted p b f = if is_counted f p b then facts_after (Counted p) f else f
