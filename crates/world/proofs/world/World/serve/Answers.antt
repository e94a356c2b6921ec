use Rattle.field_rules.specs.RuleBounds.{bounds_of}
use Rattle.model.specs.Settling.{heard_by}
use Rattle.model.proofs.RoundsGoes.{goes_heard, room_kept}
use Rattle.world.specs.Stands.{most_entries}
use Rattle.world.proofs.world.World.serve.Goals as goal

pub take_waiting-requires-clause-room : goal.take_waiting-requires-clause-room
take_waiting-requires-clause-room g c =
    rw c.in_ok-hear_waiting.ensures (room_kept c.args.self (heard_by (bounds_of c.args.rules.now) c.args.p.0 c.args.self) most_entries (goes_heard (bounds_of c.args.rules.now) c.args.p.0 c.args.self c.fits.ensures c.requires.process) c.requires.room)
