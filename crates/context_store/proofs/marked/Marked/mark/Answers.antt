use Rattle.context_store.proofs.Masks.{epochs-marked}
use Rattle.context_store.proofs.marked.Marked.mark.Goals as goal

pub returns : goal.returns
returns c = epochs-marked c.args.s _ _ c.args.e c.self.inside.numbers _ _ c.self.view_is c.renumber.ensures c.union-self-inside.ensures.members
