use Rattle.std.proofs.Common.{◌≡◌, ◌∙◌, sym, subst}
use Rattle.field_table.specs.Table.{Table}
use Rattle.content_core.specs.Held.{HoldsMore}
use Rattle.content_core.proofs.Doings.{does-came, does-stay}
use Rattle.content_core.proofs.held.Held.come.Goals as goal

pub returns-then-not-may_come-clause-does : goal.returns-then-not-may_come-clause-does
returns-then-not-may_come-clause-does c =
    does-stay c.args.self.now.process.0 c.args.known.now c.args.self.now.contexts c.args.self.now.contexts c.args.self.now.frames_made c.args.self.now.clock c.args.self.now.taken c.args.self.now.running
    (sym c.may_come.ensures ∙ c.if-not-may_come.true) c.requires.whole

pub returns-clause-does : goal.returns-clause-does
returns-clause-does c =
    let copied : c.in_ok-fields.fields ≡ c.args.known.now.fields = c.in_ok-fields.ensures ∙ c.get.ensures in
    does-came c.args.self.now.process.0 c.args.known.now c.args.self.now.contexts _ c.args.self.now.frames_made c.args.self.now.clock c.args.self.now.taken c.args.self.now.running
    (sym c.may_come.ensures ∙ c.if-not-may_come.false) c.requires.whole
    (subst (λ (values : Table). HoldsMore c.args.known.now.context c.args.known.now.parent (record { group = c.args.known.now.group; owned = c.args.known.now.owned }) values c.args.self.now.contexts c.put.new.self) copied c.in_ok-put.ensures)
