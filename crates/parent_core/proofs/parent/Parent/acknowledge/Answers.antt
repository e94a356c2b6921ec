use Rattle.std.proofs.Common.{List, ap, subst, sym, ◌∙◌}
use Rattle.context_group.specs.declared.group.Group.{Group}
use Rattle.context_group.specs.Groups.{AreSound}
use Rattle.parent_core.specs.Parent.{HoldsAll, Kept, facts_of}
use Rattle.parent_core.specs.contracts.parent.Parent as parent
use Rattle.parent_core.proofs.Behind.{facts_acked, holds_acked}
use Rattle.parent_core.proofs.parent.Parent.acknowledge.Goals as goal

pub invariant_of-result : goal.invariant_of-result
invariant_of-result c =
    let inside : Kept = parent.the_view c.self.inside in
    subst (λ (gs : List Group). HoldsAll (record inside { groups = gs })) (sym c.acknowledge.ensures.groups)
    (holds_acked inside c.self.invariant c.args.p.0 c.args.x (subst AreSound c.acknowledge.ensures.groups c.acknowledge.ensures.sound))

pub returns-clause-facts : goal.returns-clause-facts
returns-clause-facts c =
    let inside : Kept = parent.the_view c.self.inside in
    ap (λ (gs : List Group). facts_of (record inside { groups = gs })) c.acknowledge.ensures.groups
    ∙ facts_acked inside c.args.self c.self.view_is c.self.invariant c.args.p.0 c.args.x
