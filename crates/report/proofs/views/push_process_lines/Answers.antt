use Rattle.std.proofs.Common.{◌≡◌, length, string_bytes, ap, arith}
use Rattle.wire_msgs.specs.declared.config.Config.{Config}
use Rattle.parent_core.specs.Parent.{facts_of}
use Rattle.report.specs.Views.{process_line}
use Rattle.report.proofs.Counting.{text_more}
use Rattle.report.proofs.views.push_process_lines.Goals as goal

pub loop-p-preserved : goal.loop-p-preserved
loop-p-preserved c =
    let parent = c.args.parent.now in
    let same : length c.config.result.now.types ≡ length parent.config.types = ap (λ (k : Config). length k.types) c.config.ensures in
    text_more (process_line parent.config (facts_of parent)) c.loop-p.p (length parent.config.types) (string_bytes c.loop-p.out) (string_bytes c.push_process_line.new.out) _ (omega (arith, same, c.loop-p-test.true, c.len-count.ensures)) c.in_ok-push_process_line.ensures c.loop-p.invariant
