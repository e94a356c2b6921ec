use Rattle.std.proofs.Common.{◌≡◌, take, None, if◌then◌else◌}
use Rattle.std.specs.FinMap.{get}
use Rattle.std.specs.List.{list_any}
use Rattle.fission_ids.specs.declared.context.ContextId.{ContextId}
use Rattle.fission_ids.specs.Ids.{same_context}
use Rattle.content_core.proofs.contexts.forget_fields.Given as goal

abbrev pub invariant-loop-id : goal.invariant-loop-id
invariant-loop-id l = (y : ContextId) →
    get l.store y ≡ (if list_any (same_context y) (take l.id-index l.ids) then None else get l.fn.store y)
