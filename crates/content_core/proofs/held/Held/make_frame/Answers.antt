use Rattle.std.proofs.Common.{◌∙◌, ◌+◌, refl, sym, subst, true, Some}
use Rattle.field_table.specs.Table.{Table}
use Rattle.content_core.specs.Held.{HoldsMore}
use Rattle.content_core.proofs.Doings.{does-framed}
use Rattle.content_core.proofs.held.Held.make_frame.Goals as goal

pub returns : goal.returns
returns c = (
  refl,
  does-framed c.args.self.now.process.0 c.args.above c.in-Some.group c.args.self.now.contexts _ c.args.self.now.frames_made c.args.self.now.clock c.args.self.now.taken c.args.self.now.running
      c.requires.whole c.requires.held (sym c.in-Some.is ∙ c.group.ensures) c.requires.few
      (subst (λ (values : Table). HoldsMore (record { creator = c.args.self.now.process.0 + 1; serial = c.args.self.now.frames_made + 1 }) (Some c.args.above)
      (record { group = c.in-Some.group; owned = true }) values c.args.self.now.contexts c.put.new.self) c.initial.ensures c.in_ok-put.ensures),
)
