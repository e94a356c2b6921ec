use Rattle.std.proofs.Common.{◌≡◌, ◌≤◌, ◌+◌, ◌*◌, ◌++◌, length, drop}
use Rattle.field_rules.specs.RuleBounds.{bounds_of}
use Rattle.std.specs.List.{AllByRecursion}
use Rattle.edge.specs.Memory.{written_of}
use Rattle.edge.specs.Pieces.{BeginsTo}
use Rattle.model.specs.Laws.{RunFits}
use Rattle.model.specs.Settling.{weight}
use Rattle.scenario.specs.Fits.{LineFits}
use Rattle.report.specs.Report.{body_text, run_at_end}
use Rattle.report.proofs.playing.pass_lines.Given as goal

abbrev pub invariant-loop-line : goal.invariant-loop-line
invariant-loop-line g l = record {
  so_far : BeginsTo (written_of l.pieces ++ body_text (bounds_of l.rules) l.number l.world (drop l.line-index l.lines)) (g.K.Sink.written l.fn.sink) (g.K.Sink.written l.sink) (written_of l.fn.pieces ++ body_text (bounds_of l.rules) 1 l.fn.world l.lines);
  run : run_at_end (bounds_of l.rules) l.world (drop l.line-index l.lines) ≡ run_at_end (bounds_of l.rules) l.fn.world l.lines;
  plays : RunFits l.world;
  room : length l.world.journal + weight l.world ≤ length l.fn.world.journal + weight l.fn.world + 65 * l.line-index;
  fits : AllByRecursion (LineFits (length l.world.config.types)) (drop l.line-index l.lines);
  number : l.number ≡ l.line-index + 1;
  quiet : g.K.Sink.faults l.sink ≡ g.K.Sink.faults l.fn.sink;
}
