use Rattle.std.proofs.Common.{◌≡◌, ◌∙◌, sym, ap, Some, None}
use Rattle.std.specs.Prelude.{is_some}
use Rattle.context_store.specs.Joined.{key_of}
use Rattle.context_store.proofs.Joining.{at_key, AreJoined-removed, joined-absent, joined-removed}
use Rattle.context_store.proofs.slab_store.SlabStoreStore.remove.Goals as goal

pub returns-in_default-clause-content : goal.returns-in_default-clause-content
returns-in_default-clause-content c =
    let none : key_of c.args.x c.self.inside.keys.entries ≡ None = sym c.swap_remove.ensures.value ∙ c.in_default.is in
    joined-absent c.args.x _ _ c.self.inside.records _ c.self.view_is none c.in_default.ensures.unchanged

pub returns-in_default-clause-answer : goal.returns-in_default-clause-answer
returns-in_default-clause-answer c =
    let none : key_of c.args.x c.self.inside.keys.entries ≡ None = sym c.swap_remove.ensures.value ∙ c.in_default.is in
    sym (ap is_some (at_key _ c.self.inside.records _ c.self.view_is c.args.x None none))

pub invariant_of-self-2 : goal.invariant_of-self-2
invariant_of-self-2 c =
    let at : key_of c.args.x c.self.inside.keys.entries ≡ Some c.in-Some.key = sym c.swap_remove.ensures.value ∙ c.in-Some.is in
    AreJoined-removed c.args.x _ _ _ c.self.inside.records c.remove.new.self _ c.self.invariant c.self.view_is at c.swap_remove.ensures.updates.0 c.remove.ensures.updates c.in-Some.ensures.len c.remove.ensures.len

pub returns-clause-content : goal.returns-clause-content
returns-clause-content c =
    let at : key_of c.args.x c.self.inside.keys.entries ≡ Some c.in-Some.key = sym c.swap_remove.ensures.value ∙ c.in-Some.is in
    joined-removed c.args.x _ _ _ c.self.inside.records c.remove.new.self _ c.self.invariant c.self.view_is at c.swap_remove.ensures.updates.0 c.remove.ensures.updates

pub returns-clause-answer : goal.returns-clause-answer
returns-clause-answer c =
    let at : key_of c.args.x c.self.inside.keys.entries ≡ Some c.in-Some.key = sym c.swap_remove.ensures.value ∙ c.in-Some.is in
    sym (ap is_some (at_key _ c.self.inside.records _ c.self.view_is c.args.x (Some c.in-Some.key) at) ∙ c.self.invariant.held c.args.x c.in-Some.key at)

pub remove-requires : goal.remove-requires
remove-requires c =
    let at : key_of c.args.x c.self.inside.keys.entries ≡ Some c.in-Some.key = sym c.swap_remove.ensures.value ∙ c.in-Some.is in
    c.self.invariant.held c.args.x c.in-Some.key at
