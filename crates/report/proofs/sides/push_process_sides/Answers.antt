use Rattle.std.proofs.Common.{length, string_bytes, arith}
use Rattle.report.specs.Report.{process_side_text}
use Rattle.report.proofs.Counting.{text_more}
use Rattle.report.proofs.sides.push_process_sides.Goals as goal

pub loop-p-preserved : goal.loop-p-preserved
loop-p-preserved c =
    let world = c.args.world.now in
    text_more (process_side_text world) c.loop-p.p (length world.config.types) (string_bytes c.loop-p.out) (string_bytes c.push_named_side.new.out) _ (omega (arith, c.loop-p-test.true, c.count-count.ensures.count)) c.in_ok-push_named_side.ensures c.loop-p.invariant
