use Rattle.std.proofs.Common.{List, ◌∙◌, ap, if◌then◌else◌, None}
use Rattle.std.specs.FinMap.{get}
use Rattle.std.specs.List.{list_any}
use Rattle.std.proofs.lemmas.List.{take_all}
use Rattle.fission_ids.specs.declared.context.ContextId.{ContextId}
use Rattle.fission_ids.specs.Ids.{same_context}
use Rattle.parent_core.proofs.Taken.{without_none, without_next}
use Rattle.parent_core.proofs.contents.remove_all.Goals as goal

pub loop-x-init : goal.loop-x-init
loop-x-init c = without_none c.args.xs.now c.args.contexts.now

pub loop-x-preserved : goal.loop-x-preserved
loop-x-preserved c = without_next c.loop-x.x-index c.args.xs.now c.args.contexts.now c.loop-x.contexts c.remove.new.self c.loop-x-test.true c.remove.ensures.content c.loop-x.invariant

pub returns : goal.returns
returns c = λ y. c.loop-x.invariant y ∙ ap (λ (l : List ContextId). if list_any (same_context y) l then None else get c.args.contexts.now y) (take_all c.loop-x.x-index c.args.xs.now c.loop-x-test.false)
