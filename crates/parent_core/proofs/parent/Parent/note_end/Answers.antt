use Rattle.std.proofs.Common.{◌≡◌, List, ◌∷◌, ap, ap₂, subst, sym, ◌∙◌, ◌<◌, ◌≤◌, length, arith}
use Rattle.context_group.specs.declared.group.Group.{Group}
use Rattle.context_group.specs.Groups.{AreSound}
use Rattle.parent_core.specs.Parent.{End, HoldsAll, Kept, facts_of}
use Rattle.parent_core.specs.contracts.parent.Parent as parent
use Rattle.parent_core.proofs.Behind.{facts_ended, holds_ended}
use Rattle.parent_core.proofs.parent.Parent.note_end.Goals as goal

pub invariant_of-result : goal.invariant_of-result
invariant_of-result c =
    let inside : Kept = parent.the_view c.self.inside in
    let few : length inside.config.types ≤ 16 = c.self.invariant.config.few in
    let len : length inside.config.types ≡ length c.args.self.config.types = ap (λ (k : Kept). length k.config.types) c.self.view_is in
    let low : c.args.p.0 < 16 = omega (arith, few, len, c.requires) in
    subst HoldsAll
    (sym (ap₂ (λ (gs : List Group) (es : List End). record inside { groups = gs; ends = es })
    c.drop_process.ensures.groups (c.in_ok-insert.ensures.items ∙ ap (λ (e : End). e ∷ inside.ends) c.new.ensures)))
    (holds_ended inside c.self.invariant c.args.p.0 c.args.cause low (subst AreSound c.drop_process.ensures.groups c.drop_process.ensures.sound))

pub returns-clause-facts : goal.returns-clause-facts
returns-clause-facts c =
    let inside : Kept = parent.the_view c.self.inside in
    ap₂ (λ (gs : List Group) (es : List End). facts_of (record inside { groups = gs; ends = es }))
    c.drop_process.ensures.groups (c.in_ok-insert.ensures.items ∙ ap (λ (e : End). e ∷ inside.ends) c.new.ensures)
    ∙ facts_ended inside c.args.self c.self.view_is c.self.invariant c.args.p.0 c.args.cause
