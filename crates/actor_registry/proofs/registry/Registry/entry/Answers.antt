use Rattle.std.proofs.Common.{◌∙◌, ap}
use Rattle.actor_registry.specs.Registry.{entry_of}
use Rattle.actor_registry.proofs.Named.{found}
use Rattle.actor_registry.proofs.registry.Registry.entry.Goals as goal

pub returns : goal.returns
returns c =
    c.get.ensures.value
    ∙ found c.args.name.now c.self.inside.entries.entries c.self.invariant.named
    ∙ ap (entry_of c.args.name.now) c.self.view_is
