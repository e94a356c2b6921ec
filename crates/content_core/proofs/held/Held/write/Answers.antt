use Rattle.content_core.proofs.Written.{does-wrote}
use Rattle.content_core.proofs.held.Held.write.Goals as goal

pub returns : goal.returns
returns c =
    does-wrote c.args.self.now.process.0 c.args.self.now.contexts _ c.args.self.now.frames_made c.args.self.now.clock _ c.args.self.now.taken c.args.self.now.running c.args.x c.args.t
    c.commit.ensures.store c.commit.ensures.clock c.requires.whole c.requires.held
