use Rattle.std.proofs.Common.{rules, refl}
use Rattle.worked_rows.specs.Script.{piece_text}
use Rattle.worked_rows.proofs.Scripts.{each_marked}
use Rattle.worked_rows.proofs.script.lines_behind.Goals as goal

pub returns : goal.returns
unfolding piece_text
returns c = each_marked c.in_ok-lines_in.field-0.items c.args.front.now c.args.lines.now _ (search rules) refl c.in_ok-lines_in.ensures
