use Rattle.std.proofs.Common.{not, rules}
use Rattle.std.proofs.lemmas.Fn.{filter_same}
use Rattle.fission_ids.specs.Ids.{same_context}
use Rattle.context_store.proofs.Entries.{Entry}
use Rattle.context_store.proofs.list_store.leave_out.Goals as goal

pub returns : goal.returns
returns c = filter_same _ (λ (l : Entry). not (same_context c.args.x l.0)) _ (λ l b f r. search rules) _ _ c.retain.ensures.filtered
