use Rattle.context_store.proofs.Joining.{AreJoined-clone, joined-clone}
use Rattle.context_store.proofs.slab_store.SlabStoreDuplicate.copy.Goals as goal

pub invariant_of-result : goal.invariant_of-result
invariant_of-result c = AreJoined-clone _ _ c.self.inside.records c.in_ok-clone-2.field-0 c.in_ok-clone.ensures.cases c.in_ok-clone-2.ensures.cases c.self.invariant

pub returns : goal.returns
returns c = joined-clone _ _ c.self.inside.records c.in_ok-clone-2.field-0 c.in_ok-clone.ensures.cases c.in_ok-clone-2.ensures.cases _ c.self.view_is
