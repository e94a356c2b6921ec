use Rattle.std.proofs.Common.{sym}
use Rattle.field_rules.specs.RuleBounds.{bounds_of}
use Rattle.protocol.specs.Outside.{allowed_in}
use Rattle.parent_core.proofs.Doing.{ignored_done}
use Rattle.parent_core.proofs.parent.Parent.hear_commit.Goals as goal

pub returns-else-is_judged : goal.returns-else-is_judged
returns-else-is_judged g c = ignored_done (allowed_in (bounds_of c.args.rules.now) c.args.t) c.args.p.0 c.args.x c.args.t c.args.self c.args.posts.now.items (sym c.if-is_judged.ensures)
