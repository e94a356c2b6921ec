use Rattle.std.proofs.Common.{ℕ, List, ◌++◌, ap, subst, ◌∙◌}
use Rattle.field_rules.specs.RuleBounds.{bounds_of}
use Rattle.scenario.specs.declared.line.Line.{Line}
use Rattle.edge.specs.Memory.{written_of}
use Rattle.edge.specs.Pieces.{BeginsTo}
use Rattle.edge.proofs.Pieces.{errs}
use Rattle.model.specs.Next.{run_at_start}
use Rattle.report.specs.Report.{head_text, played_text, text}
use Rattle.report.proofs.Gathered.{appended, writes_rest}
use Rattle.report.proofs.playing.write_report.Goals as goal

pub returns-in_err-in_memory-clause-bytes : goal.returns-in_err-in_memory-clause-bytes
returns-in_err-in_memory-clause-bytes g c = errs c.from_residual.result (g.K.Sink.written c.args.sink.now) (text (bounds_of c.args.rules.now) c.args.scenario) c.from_residual.ensures.0

pub returns-clause-bytes : goal.returns-clause-bytes
returns-clause-bytes g c =
    let s = c.args.scenario in
    let old = g.K.Sink.written c.args.sink.now in
    let mid = g.K.Sink.written c.pass_played.new.sink in
    let rest = written_of c.pass_played.new.pieces in
    let first = appended c.head.result (written_of c.no_pieces-pieces.result) (written_of c.head.new.sink) (head_text s.config) c.in_ok-in_memory.ensures c.head.ensures.bytes ∙ ap (λ (l : List ℕ). l ++ head_text s.config) c.no_pieces-pieces.ensures in
    let P : List ℕ → Type 0 = λ l. BeginsTo rest old mid (l ++ played_text (bounds_of c.args.rules.now) (run_at_start s.config) c.as_slice.result.now) in
    let Q : List Line → Type 0 = λ ls. BeginsTo rest old mid (head_text s.config ++ played_text (bounds_of c.args.rules.now) (run_at_start s.config) ls) in
    writes_rest c.pass_all.result rest (text (bounds_of c.args.rules.now) s) old mid _ (subst Q c.as_slice.ensures (subst P first c.in_ok-pass_played.ensures.bytes)) c.pass_all.ensures.bytes
