use Rattle.std.proofs.Common.{◌≡◌, ℕ, ◌∷◌, Option, Some, sym, ◌∙◌, ap, decimal, arith}
use Rattle.fission_ids.specs.declared.group.GroupId.{GroupId}
use Rattle.fission_ids.proofs.Named.{group_of-none, group_of-text}
use Rattle.fission_ids.proofs.Printed.{same_printed}
use Rattle.fission_ids.proofs.group.GroupId.parse.Goals as goal

pub returns-clause-inverse : goal.returns-clause-inverse
returns-clause-inverse c i fits e =
    let rest : c.in_ok-after_letter.field-0.now ≡ decimal i.0 = cc (c.in_ok-after_letter.ensures) in
    let same : c.in_ok-read_serial.field-0 ≡ i.0 = same_printed _ _ i.0 (omega arith) (omega arith) c.in_ok-read_serial.ensures.1 rest in
    let make : ℕ → Option GroupId = λ n. Some (record { 0 = n }) in
    ap make same

pub returns-in_err-after_letter-clause-value : goal.returns-in_err-after_letter-clause-value
returns-in_err-after_letter-clause-value c = c.from_residual.ensures ∙ sym (group_of-none c.args.text.now (λ i fits e. c.in_err-after_letter.ensures (decimal i.0) e))

pub returns-in_err-read_serial-clause-value : goal.returns-in_err-read_serial-clause-value
returns-in_err-read_serial-clause-value c =
    c.from_residual-in_err-read_serial.ensures ∙ sym (group_of-none c.args.text.now (λ i fits e.
    let rest : c.in_ok-after_letter.field-0.now ≡ decimal i.0 = cc (c.in_ok-after_letter.ensures) in c.in_err-read_serial.ensures i.0 fits.0 fits.1 rest))

pub returns-clause-value : goal.returns-clause-value
returns-clause-value c =
    let number : ℕ = c.in_ok-read_serial.field-0 in
    sym (group_of-text c.args.text.now (record { 0 = number }) (c.in_ok-read_serial.ensures.0, omega arith) (c.in_ok-after_letter.ensures ∙ ap (λ rest. 103 ∷ rest) c.in_ok-read_serial.ensures.1))
