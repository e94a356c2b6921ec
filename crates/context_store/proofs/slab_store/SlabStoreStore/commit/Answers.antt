use Rattle.std.proofs.Common.{◌≡◌, ◌∙◌, sym, ap, Some, None}
use Rattle.std.specs.Prelude.{is_some}
use Rattle.std.specs.Option.{option_copied}
use Rattle.context_store.specs.Content.{stored_after_commit}
use Rattle.context_store.specs.Joined.{key_of}
use Rattle.context_store.proofs.Contexts.{changed_at-absent}
use Rattle.context_store.proofs.Joining.{at_key, AreJoined-changed, joined-changed}
use Rattle.context_store.proofs.slab_store.SlabStoreStore.commit.Goals as goal

pub returns-in_default-clause-content : goal.returns-in_default-clause-content
returns-in_default-clause-content c =
    let none : key_of c.args.x c.self.inside.keys.entries ≡ None = sym c.get.ensures.value ∙ ap option_copied c.in_default.is in
    sym (changed_at-absent (stored_after_commit c.args.t c.args.e) c.args.x c.args.self.now (at_key _ c.self.inside.records _ c.self.view_is c.args.x None none))

pub returns-in_default-clause-answer : goal.returns-in_default-clause-answer
returns-in_default-clause-answer c =
    let none : key_of c.args.x c.self.inside.keys.entries ≡ None = sym c.get.ensures.value ∙ ap option_copied c.in_default.is in
    sym (ap is_some (at_key _ c.self.inside.records _ c.self.view_is c.args.x None none))

pub invariant_of-self : goal.invariant_of-self
invariant_of-self c =
    let at : key_of c.args.x c.self.inside.keys.entries ≡ Some c.in-Some.key.now = sym c.get.ensures.value ∙ ap option_copied c.in-Some.is in
    AreJoined-changed (stored_after_commit c.args.t c.args.e) c.args.x _ _ c.self.inside.records c.commit_at.new.records _ c.self.invariant c.self.view_is at c.commit_at.ensures.records c.commit_at.ensures.len

pub returns-clause-content : goal.returns-clause-content
returns-clause-content c =
    let at : key_of c.args.x c.self.inside.keys.entries ≡ Some c.in-Some.key.now = sym c.get.ensures.value ∙ ap option_copied c.in-Some.is in
    joined-changed (stored_after_commit c.args.t c.args.e) c.args.x _ _ c.self.inside.records c.commit_at.new.records _ c.self.invariant c.self.view_is at c.commit_at.ensures.records

pub returns-clause-answer : goal.returns-clause-answer
returns-clause-answer c =
    let at : key_of c.args.x c.self.inside.keys.entries ≡ Some c.in-Some.key.now = sym c.get.ensures.value ∙ ap option_copied c.in-Some.is in
    c.commit_at.ensures.answer ∙ sym (ap is_some (at_key _ c.self.inside.records _ c.self.view_is c.args.x (Some c.in-Some.key.now) at))
