use Rattle.std.proofs.Common.{List, ◌≡◌, ◌++◌, ◌+◌, ◌*◌, ◌<◌, length, sym, ap, subst, ◌∙◌, arith}
use Rattle.field_rules.specs.RuleBounds.{bounds_of}
use Rattle.std.specs.List.{AllByRecursion}
use Rattle.edge.specs.Memory.{written_of}
use Rattle.scenario.specs.Fits.{LineFits}
use Rattle.model.specs.Laws.{RunFits}
use Rattle.model.specs.Next.{Run, run_at_start}
use Rattle.model.specs.Settling.{weight}
use Rattle.report.specs.Report.{body_text, end_text, played_text, run_at_end}
use Rattle.report.proofs.Gathered.{unwritten, errs_in_first, begins_longer, appended}
use Rattle.world.specs.Stands.{most_entries}
use Rattle.report.proofs.Room.{start_fits, nothing_at_start}
use Rattle.report.proofs.Written.{played_parts, end_of_run}
use Rattle.report.proofs.playing.pass_played.Goals as goal

pub returns-in_err-world-clause-bytes : goal.returns-in_err-world-clause-bytes
returns-in_err-world-clause-bytes g c =
    unwritten c.from_residual.result (written_of c.args.pieces.now ++ played_text (bounds_of c.args.rules.now) (run_at_start c.args.config) c.args.lines.now) (written_of c.args.pieces.now) (g.K.Sink.written c.args.sink.now) c.from_residual.ensures.0

pub pass_lines-requires : goal.pass_lines-requires
pass_lines-requires g c =
    let ls = c.args.lines.now in
    let start : c.in_ok-world.world ≡ run_at_start c.args.config = c.in_ok-world.ensures in
    let P : Run → Type 0 = λ r. AllByRecursion (LineFits (length r.config.types)) ls in
    let Q : Run → Type 0 = λ r. length r.journal + weight r + 65 * length ls < most_entries in
    record {
      run = subst (λ (r : Run). RunFits r) (sym start) (start_fits c.args.config c.requires.config);
      lines = subst P (sym start) c.requires.lines;
      room = subst Q (sym start) (omega (arith, nothing_at_start c.args.config, c.requires.few));
    }

pub returns-in_err-world-2-clause-bytes : goal.returns-in_err-world-2-clause-bytes
returns-in_err-world-2-clause-bytes g c =
    let before = written_of c.args.pieces.now in
    let start = run_at_start c.args.config in
    let w = c.in_ok-world.world in
    let ls = c.args.lines.now in
    errs_in_first c.from_residual-in_err-world-2.result (before ++ body_text (bounds_of c.args.rules.now) 1 w ls) (end_text (length (run_at_end (bounds_of c.args.rules.now) start ls).journal)) (before ++ played_text (bounds_of c.args.rules.now) start ls) c.in_err-world-2.ensures.bytes.0 (written_of c.pass_lines.new.pieces) _ _
    c.from_residual-in_err-world-2.ensures.0 (played_parts (bounds_of c.args.rules.now) before w start ls c.in_ok-world.ensures) c.in_err-world-2.ensures.bytes.1

pub returns-in_err-in_memory-clause-bytes : goal.returns-in_err-in_memory-clause-bytes
returns-in_err-in_memory-clause-bytes g c =
    let before = written_of c.args.pieces.now in
    let start = run_at_start c.args.config in
    let w = c.in_ok-world.world in
    let ls = c.args.lines.now in
    errs_in_first c.from_residual-in_err-in_memory.result (before ++ body_text (bounds_of c.args.rules.now) 1 w ls) (end_text (length (run_at_end (bounds_of c.args.rules.now) start ls).journal)) (before ++ played_text (bounds_of c.args.rules.now) start ls) (written_of c.pass_lines.new.pieces) (written_of c.last.new.sink) _ _
    c.from_residual-in_err-in_memory.ensures.0 (played_parts (bounds_of c.args.rules.now) before w start ls c.in_ok-world.ensures) c.in_ok-world-2.ensures.bytes

pub returns-clause-bytes : goal.returns-clause-bytes
returns-clause-bytes g c =
    let before = written_of c.args.pieces.now in
    let start = run_at_start c.args.config in
    let w = c.in_ok-world.world in
    let v = c.in_ok-world-2.world in
    let ls = c.args.lines.now in
    let mid = written_of c.pass_lines.new.pieces in
    let now = written_of c.last.new.sink in
    begins_longer (before ++ body_text (bounds_of c.args.rules.now) 1 w ls) (end_text (length (run_at_end (bounds_of c.args.rules.now) start ls).journal)) (before ++ played_text (bounds_of c.args.rules.now) start ls) mid now _ _
    (played_parts (bounds_of c.args.rules.now) before w start ls c.in_ok-world.ensures)
    (appended c.last.result mid now (end_text (length v.journal)) c.in_ok-in_memory.ensures c.last.ensures.bytes ∙ ap (λ (l : List _). mid ++ l) (end_of_run (bounds_of c.args.rules.now) v w start ls c.in_ok-world-2.ensures.world c.in_ok-world.ensures))
    c.in_ok-world-2.ensures.bytes
