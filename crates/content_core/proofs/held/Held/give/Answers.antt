use Rattle.content_core.proofs.Taken.{takes-commit}
use Rattle.content_core.proofs.held.Held.give.Goals as goal

pub returns : goal.returns
returns c =
    takes-commit c.args.self.now.process.0 c.args.self.now.contexts _ c.args.self.now.frames_made c.args.self.now.clock c.args.self.now.taken c.args.self.now.running c.args.x c.args.t.now c.args.e
    c.in_ok-note.note c.in_ok-note.ensures.store c.in_ok-note.ensures.note c.requires.whole
