use Rattle.fission_ids.specs.Ids.{query_of}
use Rattle.fission_ids.proofs.Named.{named_none, named_some}
use Rattle.fission_ids.proofs.Remade.{remade}
use Rattle.fission_ids.proofs.query.QueryId.parse.Goals as goal

pub returns-clause-inverse : goal.returns-clause-inverse
returns-clause-inverse c i fits e = remade (λ creator serial. record { creator = creator; serial = serial }) _ _ i.creator i.serial (c.in_ok-creator.ensures.every i.creator i.serial fits e)

pub returns-in_err-creator-clause-value : goal.returns-in_err-creator-clause-value
unfolding query_of
returns-in_err-creator-clause-value c = named_none (λ n. record { creator = n.0; serial = n.1 }) 113 c.args.text.now _ c.from_residual.ensures (λ creator serial fits e. cc (c.in_err-creator.ensures.every creator serial fits e))

pub returns-clause-value : goal.returns-clause-value
unfolding query_of
returns-clause-value c = named_some (λ n. record { creator = n.0; serial = n.1 }) 113 c.args.text.now _ _ c.in_ok-creator.ensures.found.0 c.in_ok-creator.ensures.found.1
