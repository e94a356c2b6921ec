use Rattle.actor_registry.proofs.Named.{fresh}
use Rattle.actor_registry.proofs.registry.registered.Goals as goal

pub add-requires-clause-apart : goal.add-requires-clause-apart
add-requires-clause-apart c =
    fresh c.args.entries.now c.loop-entry.registry c.loop-entry.entry-index c.entry-item.result c.in_ok-copy.field-0
    c.entry-item.is c.in_ok-copy.ensures c.loop-entry.invariant c.requires.apart c.loop-entry-test.true
