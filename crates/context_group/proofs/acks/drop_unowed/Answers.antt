use Rattle.std.proofs.Common.{rules}
use Rattle.std.proofs.lemmas.List.Elements.{filter_from_retain}
use Rattle.context_group.specs.Acks.{is_owed}
use Rattle.context_group.proofs.acks.drop_unowed.Goals as goal

pub returns : goal.returns
returns c = filter_from_retain _ is_owed (λ p x b q. search rules) _ _ _ c.retain.ensures.filtered
