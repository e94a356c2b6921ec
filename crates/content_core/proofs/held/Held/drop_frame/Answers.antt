use Rattle.content_core.specs.Held.{kept_of}
use Rattle.content_core.proofs.Acting.{moved-drop}
use Rattle.content_core.proofs.held.Held.drop_frame.Goals as goal

pub returns : goal.returns
returns c =
    moved-drop (kept_of c.args.self) (kept_of c.go.new.self) c.args.x c.in_ok-parts.parts c.moved.result c.moved.ensures.core c.moved.ensures.sent
    c.in_ok-go.ensures c.moved.ensures.answer c.in_ok-parts.ensures
