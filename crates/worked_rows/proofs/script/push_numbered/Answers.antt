use Rattle.std.proofs.Common.{◌≡◌, ◌++◌, string_bytes, ap, ◌∙◌, arith}
use Rattle.worked_rows.specs.Script.{numbered}
use Rattle.worked_rows.proofs.Scripts.{none_yet, numbered_more}
use Rattle.worked_rows.proofs.script.push_numbered.Goals as goal

pub loop-k-init : goal.loop-k-init
loop-k-init c = (none_yet (string_bytes c.args.text.now) c.args.piece.now).1

pub loop-k-preserved : goal.loop-k-preserved
loop-k-preserved c =
    numbered_more c.loop-k.k (string_bytes c.args.text.now) (string_bytes c.loop-k.text) (string_bytes c.push_str.new.self) (string_bytes c.push_str-in-loop-k.new.self) c.args.piece.now
    c.loop-k.invariant (c.in_ok-push_str.ensures.bytes ∙ ap (λ l. string_bytes c.loop-k.text ++ l) (c.as_str.ensures.value ∙ c.in_ok-format.ensures.ok)) c.in_ok-push_str-2.ensures.bytes

pub returns : goal.returns
returns c = let at : c.loop-k.k ≡ c.args.count = omega (arith, c.loop-k-test.false, c.loop-k.auto.k-end) in c.loop-k.invariant ∙ ap (λ n. string_bytes c.args.text.now ++ numbered n c.args.piece.now) at
