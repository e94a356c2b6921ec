use Rattle.std.proofs.Common.{◌∙◌, ap}
use Rattle.std.specs.FinMap.{remove}
use Rattle.context_store.specs.Content.{Content}
use Rattle.context_store.proofs.Entries.{listed_left, listed_is_there}
use Rattle.context_store.proofs.list_store.ListStoreStore.remove.Goals as goal

pub returns-clause-content : goal.returns-clause-content
returns-clause-content c =
    listed_left c.args.x _ _ c.leave_out.ensures ∙ ap (λ (m : Content). remove m c.args.x) c.self.view_is

pub returns-clause-answer : goal.returns-clause-answer
returns-clause-answer c = c.is_some-is_there.ensures ∙ listed_is_there _ _ _ c.self.view_is _ _ c.as_slice.ensures.value c.place_of.ensures
