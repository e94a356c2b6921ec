use Rattle.std.proofs.Common.{◌≡◌, arith}
use Rattle.fission_ids.specs.Ids.{numbers_text}
use Rattle.fission_ids.proofs.Printed.{same_printed}
use Rattle.fission_ids.proofs.numbers.read_numbers.Goals as goal

pub returns-clause-every : goal.returns-clause-every
returns-clause-every c creator serial fits e =
    let rest : c.in_ok-after_letter.field-0.now ≡ numbers_text creator serial = cc (c.in_ok-after_letter.ensures) in
    let parts = c.in_ok-creator.ensures.every creator serial (omega arith) rest in
    let first : c.in_ok-read_creator.field-0 ≡ creator = same_printed _ _ creator (omega arith) (omega arith) c.in_ok-read_creator.ensures.1 parts.0 in
    let second : c.in_ok-read_serial.field-0 ≡ serial = same_printed _ _ serial (omega arith) (omega arith) c.in_ok-read_serial.ensures.1 parts.1 in
    cc
