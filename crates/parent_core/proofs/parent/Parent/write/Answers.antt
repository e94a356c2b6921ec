use Rattle.parent_core.specs.contracts.parent.Parent as parent
use Rattle.parent_core.proofs.Behind.{facts_wrote}
use Rattle.parent_core.proofs.parent.Parent.write.Goals as goal

pub returns-clause-facts : goal.returns-clause-facts
returns-clause-facts c = facts_wrote (parent.the_view c.self.inside) c.args.self c.self.view_is c.args.x c.args.t c.commit_to.new.contexts c.commit_to.ensures.values
