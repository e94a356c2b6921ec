use Rattle.std.proofs.Common.{◌≡◌, ◌∙◌, sym, ap, Some, None}
use Rattle.std.specs.Option.{option_copied, option_map}
use Rattle.context_store.specs.Content.{obsolete_fields, stored_after_overlay}
use Rattle.context_store.specs.Joined.{key_of}
use Rattle.context_store.proofs.Contexts.{changed_at-absent}
use Rattle.context_store.proofs.Joining.{at_key, AreJoined-changed, joined-changed}
use Rattle.context_store.proofs.slab_store.SlabStoreStore.overlay.Goals as goal

pub returns-in_err-key-clause-content : goal.returns-in_err-key-clause-content
returns-in_err-key-clause-content c =
    let none : key_of c.args.x c.self.inside.keys.entries ≡ None = sym c.get.ensures.value ∙ ap option_copied c.in_err-key.was in
    sym (changed_at-absent (stored_after_overlay c.args.t c.args.e) c.args.x c.args.self.now (at_key _ c.self.inside.records _ c.self.view_is c.args.x None none))

pub returns-in_err-key-clause-answer : goal.returns-in_err-key-clause-answer
returns-in_err-key-clause-answer c =
    let none : key_of c.args.x c.self.inside.keys.entries ≡ None = sym c.get.ensures.value ∙ ap option_copied c.in_err-key.was in
    c.from_residual.ensures
    ∙ sym (ap (option_map (obsolete_fields c.args.t c.args.e)) (at_key _ c.self.inside.records _ c.self.view_is c.args.x None none))

pub invariant_of-self : goal.invariant_of-self
invariant_of-self c =
    let at : key_of c.args.x c.self.inside.keys.entries ≡ Some c.in_ok-key.field-0.now = sym c.get.ensures.value ∙ ap option_copied c.in_ok-key.was in
    AreJoined-changed (stored_after_overlay c.args.t c.args.e) c.args.x _ _ c.self.inside.records c.overlay_at.new.records _ c.self.invariant c.self.view_is at c.overlay_at.ensures.records c.overlay_at.ensures.len

pub returns-clause-content : goal.returns-clause-content
returns-clause-content c =
    let at : key_of c.args.x c.self.inside.keys.entries ≡ Some c.in_ok-key.field-0.now = sym c.get.ensures.value ∙ ap option_copied c.in_ok-key.was in
    joined-changed (stored_after_overlay c.args.t c.args.e) c.args.x _ _ c.self.inside.records c.overlay_at.new.records _ c.self.invariant c.self.view_is at c.overlay_at.ensures.records

pub returns-clause-answer : goal.returns-clause-answer
returns-clause-answer c =
    let at : key_of c.args.x c.self.inside.keys.entries ≡ Some c.in_ok-key.field-0.now = sym c.get.ensures.value ∙ ap option_copied c.in_ok-key.was in
    c.overlay_at.ensures.answer
    ∙ sym (ap (option_map (obsolete_fields c.args.t c.args.e)) (at_key _ c.self.inside.records _ c.self.view_is c.args.x (Some c.in_ok-key.field-0.now) at))
