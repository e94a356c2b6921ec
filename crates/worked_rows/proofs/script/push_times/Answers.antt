use Rattle.std.proofs.Common.{string_bytes, ap, ◌∙◌, arith, ◌≡◌, ◌++◌}
use Rattle.worked_rows.specs.Script.{times}
use Rattle.worked_rows.proofs.Scripts.{none_yet, times_more}
use Rattle.worked_rows.proofs.script.push_times.Goals as goal

pub loop-k-init : goal.loop-k-init
loop-k-init c = (none_yet (string_bytes c.args.text.now) c.args.piece.now).0

pub loop-k-preserved : goal.loop-k-preserved
loop-k-preserved c =
    times_more c.loop-k._k (string_bytes c.args.text.now) (string_bytes c.loop-k.text) (string_bytes c.push_str.new.self) c.args.piece.now c.loop-k.invariant c.in_ok-push_str.ensures.bytes

pub returns : goal.returns
returns c = let at : c.loop-k._k ≡ c.args.count = omega (arith, c.loop-k-test.false, c.loop-k.auto) in c.loop-k.invariant ∙ ap (λ n. string_bytes c.args.text.now ++ times n c.args.piece.now) at
