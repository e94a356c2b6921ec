use Rattle.context_store.proofs.Entries.{listed_push_in}
use Rattle.context_store.proofs.list_store.ListStoreStore.add.Goals as goal

pub returns-clause-ok : goal.returns-clause-ok
returns-clause-ok c = listed_push_in _ _ _ c.self.view_is _ _ _ c.requires c.in_ok-push.ensures.items c.new.ensures
