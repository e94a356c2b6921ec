use Rattle.std.proofs.Common.{◌≡◌, arith}
use Rattle.fission_ids.proofs.Printed.{same_printed}
use Rattle.fission_ids.proofs.numbers.read_creator.Goals as goal

pub returns-else-creator-le-LAST_CREATOR : goal.returns-else-creator-le-LAST_CREATOR
returns-else-creator-le-LAST_CREATOR c n small e =
    let same : c.in_ok-creator.creator ≡ n = same_printed c.args.text.now _ n (omega arith) (omega arith) c.in_ok-creator.ensures e in
    omega arith
