use Rattle.context_group.specs.Groups.{group_after_shrink}
use Rattle.context_group.proofs.Places.{changed_at, made_if_live}
use Rattle.context_group.proofs.groups.Groups.shrink.Goals as goal

pub returns-clause-groups : goal.returns-clause-groups
returns-clause-groups c = changed_at group_after_shrink c.args.g c.args.self.now c.self.inside.groups.items c.index_mut.result.now c.shrink.new.self c.self.view_is (made_if_live c.args.g c.args.self.now c.requires) c.index_mut.ensures.value c.shrink.ensures
