use Rattle.std.proofs.Common.{sym}
use Rattle.parent_core.proofs.Doing.{dead_done}
use Rattle.parent_core.proofs.parent.Parent.hear_drop.Goals as goal

pub returns-else-is_live : goal.returns-else-is_live
returns-else-is_live c = dead_done c.args.p.0 c.args.x c.args.self c.args.posts.now.items (sym c.if-is_live.ensures)
