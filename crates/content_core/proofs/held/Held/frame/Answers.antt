use Rattle.content_core.specs.Content.{seen_of}
use Rattle.content_core.specs.Held.{kept_of}
use Rattle.content_core.proofs.Acting.{frame-held, frame-few, moved-frame}
use Rattle.content_core.proofs.held.Held.frame.Goals as goal

pub make_frame-requires-clause-held : goal.make_frame-requires-clause-held
make_frame-requires-clause-held c = frame-held c.args.self.process.0 (seen_of (kept_of c.args.self)) c.args.x c.requires.allowed

pub make_frame-requires-clause-few : goal.make_frame-requires-clause-few
make_frame-requires-clause-few c = frame-few c.args.self.process.0 (seen_of (kept_of c.args.self)) c.args.x c.requires.allowed c.requires.whole.few

pub returns : goal.returns
returns c =
    moved-frame (kept_of c.args.self) (kept_of c.make_frame.new.self) c.args.x c.in_ok-parts.parts c.moved.result c.moved.ensures.core c.moved.ensures.sent
    c.in_ok-context.context c.in_ok-context.ensures.0 c.in_ok-context.ensures.1 c.moved.ensures.answer c.in_ok-parts.ensures
