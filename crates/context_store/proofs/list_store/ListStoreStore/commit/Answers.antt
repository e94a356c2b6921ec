use Rattle.std.proofs.Common.{sym, ap}
use Rattle.std.specs.Prelude.{is_some}
use Rattle.context_store.specs.Content.{stored_after_commit}
use Rattle.context_store.proofs.Contexts.{changed_at-absent}
use Rattle.context_store.proofs.Entries.{placed, listed_absent, listed_there, listed_written}
use Rattle.context_store.proofs.list_store.ListStoreStore.commit.Goals as goal

pub returns-in_default-clause-content : goal.returns-in_default-clause-content
returns-in_default-clause-content c =
    let none = placed _ _ _ _ _ c.as_slice.ensures.value c.place_of.ensures c.in_default.is in
    sym (changed_at-absent (stored_after_commit c.args.t c.args.e) c.args.x c.args.self.now (listed_absent _ _ _ c.self.view_is none))

pub returns-in_default-clause-answer : goal.returns-in_default-clause-answer
returns-in_default-clause-answer c =
    let none = placed _ _ _ _ _ c.as_slice.ensures.value c.place_of.ensures c.in_default.is in
    sym (ap is_some (listed_absent _ _ _ c.self.view_is none))

pub returns-clause-content : goal.returns-clause-content
returns-clause-content c =
    let at = placed _ _ _ _ _ c.as_slice.ensures.value c.place_of.ensures c.in-Some.is in
    listed_written _ _ _ c.self.view_is (stored_after_commit c.args.t c.args.e) c.in-Some.place c.index_mut.result.now _ at c.index_mut.ensures.value c.commit.ensures

pub returns-clause-answer : goal.returns-clause-answer
returns-clause-answer c =
    let at = placed _ _ _ _ _ c.as_slice.ensures.value c.place_of.ensures c.in-Some.is in
    sym (ap is_some (listed_there _ _ _ c.self.view_is c.in-Some.place c.index_mut.result.now at c.index_mut.ensures.value))
