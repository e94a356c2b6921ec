use Rattle.content_core.proofs.Doings.{does-went}
use Rattle.content_core.proofs.held.Held.go.Goals as goal

pub returns : goal.returns
returns c =
    does-went c.args.self.now.process.0 c.args.x c.args.self.now.contexts _ c.args.self.now.frames_made c.args.self.now.clock c.args.self.now.taken c.args.self.now.running c.requires.whole c.in_ok-leave.ensures
