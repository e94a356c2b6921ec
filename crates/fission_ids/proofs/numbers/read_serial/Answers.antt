use Rattle.std.proofs.Common.{◌≡◌, arith}
use Rattle.fission_ids.proofs.Printed.{same_printed}
use Rattle.fission_ids.proofs.numbers.read_serial.Goals as goal

pub returns-then-serial-eq0 : goal.returns-then-serial-eq0
returns-then-serial-eq0 c n from to e =
    let same : c.in_ok-serial.serial ≡ n = same_printed c.args.text.now _ n (omega arith) (omega arith) c.in_ok-serial.ensures e in
    omega arith
