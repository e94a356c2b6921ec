use Rattle.std.proofs.Common.{◌≡◌, take, cond}
use Rattle.std.specs.Prelude.{None}
use Rattle.std.specs.List.{list_any}
use Rattle.std.specs.HashMap.{get}
use Rattle.fission_ids.specs.declared.context.ContextId.{ContextId}
use Rattle.fission_ids.specs.Ids.{same_context}
use Rattle.context_tree.proofs.tree.forget.Given as goal

abbrev pub invariant-loop-id : goal.invariant-loop-id
invariant-loop-id l = (x : ContextId) →
    get same_context l.places x ≡ cond (list_any (same_context x) (take l.id-index l.ids)) None (get same_context l.fn.places x)
