use Rattle.fission_ids.proofs.window.WindowId.of_number.Goals as goal

pub returns-in_err-creator-clause-cases : goal.returns-in_err-creator-clause-cases
returns-in_err-creator-clause-cases c = rw c.from_residual.ensures (λ i fits e. cc (c.in_err-creator.ensures.every i.creator i.serial fits e))

pub returns-in_err-creator-clause-inverse : goal.returns-in_err-creator-clause-inverse
returns-in_err-creator-clause-inverse c i fits e = cc (c.in_err-creator.ensures.every i.creator i.serial fits e)
