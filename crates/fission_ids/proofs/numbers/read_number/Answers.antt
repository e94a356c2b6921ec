use Rattle.std.proofs.Common.{sym, subst, refl, arith}
use Rattle.fission_ids.specs.Ids.{IsPlain}
use Rattle.fission_ids.proofs.Printed.{decimal-read, read-decimal, plain-decimal}
use Rattle.fission_ids.proofs.numbers.read_number.Goals as goal

pub returns-in_err-number : goal.returns-in_err-number
returns-in_err-number c = rw c.from_residual.ensures (λ n small e.
    let read = read-decimal c.args.text.now c.parse.result n c.parse.ensures.value.0 small e in
    let none = c.in_err-number.ensures.value in
    cc (read, none))

pub returns-then-is_plain : goal.returns-then-is_plain
returns-then-is_plain c = decimal-read c.args.text.now c.parse.result _ c.parse.ensures.value.0 c.in_ok-number.ensures.value (c.if-is_plain.ensures.0 refl)

pub returns-else-is_plain : goal.returns-else-is_plain
returns-else-is_plain c n small e = let plain = subst IsPlain (sym e) (plain-decimal n (omega arith)) in cc (c.if-is_plain.ensures.1 plain)
