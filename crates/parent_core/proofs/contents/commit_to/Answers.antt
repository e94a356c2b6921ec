use Rattle.parent_core.proofs.Committed.{values_committed, there_committed}
use Rattle.parent_core.proofs.contents.commit_to.Goals as goal

pub returns-clause-values : goal.returns-clause-values
returns-clause-values c = values_committed c.args.x c.args.t c.args.contexts.now c.commit.new.self c.commit.ensures.content c.requires c.cover_each_field.ensures

pub returns-clause-there : goal.returns-clause-there
returns-clause-there c = there_committed c.args.x c.args.t c.args.contexts.now c.commit.new.self c.commit.ensures.content
