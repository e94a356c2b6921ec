use Rattle.std.proofs.Common.{◌≡◌, take, None, if◌then◌else◌}
use Rattle.std.specs.HashMap.{get}
use Rattle.std.specs.List.{list_any}
use Rattle.fission_ids.specs.declared.context.ContextId.{ContextId}
use Rattle.fission_ids.specs.Ids.{same_context}
use Rattle.content_core.proofs.contexts.forget_holds.Given as goal

abbrev pub invariant-loop-id : goal.invariant-loop-id
invariant-loop-id l = (y : ContextId) →
    get same_context l.holds y ≡ (if list_any (same_context y) (take l.id-index l.ids) then None else get same_context l.fn.holds y)
