use Rattle.std.proofs.Common.{◌≡◌, ◌<◌, true, nat_lt, length, Option, None, Some, is_some, ap, sym, subst, ◌∙◌}
use Rattle.std.specs.Prelude.{IfSome, slice_index_or}
use Rattle.fission_ids.specs.declared.context.ContextId.{ContextId}
use Rattle.field_table.specs.declared.field.Field.{Field}
use Rattle.std.specs.Option.{option_map}
use Rattle.std.proofs.lemmas.Bool.{ltb-true}
use Rattle.content_core.specs.Content.{seen_of}
use Rattle.model.specs.Moments.{seen_now, moments_of}
use Rattle.model.specs.Next.{Run}
use Rattle.model.specs.Settling.{moments_in}
use Rattle.model.specs.Laws.{RunFits, IsWithout}
use Rattle.model.specs.View.{view, is_honest}
use Rattle.model.proofs.Comings.{what_is_told, what_comes}
use Rattle.model.proofs.FieldLaws.{reverts_stand, only_killed}
use Rattle.world.specs.Missing.{IsMissing}
use Rattle.world.specs.Sides.{side_of}
use Rattle.world.specs.Stands.{side}
use Rattle.world.proofs.Shown.{contents_count, held_at, shows_at, number_at, answers_at, is_there}
use Rattle.world.proofs.world.World.content.Goals as goal

pub returns-in_err-get-clause-there : goal.returns-in_err-get-clause-there
returns-in_err-get-clause-there c =
    ap is_some c.from_residual.ensures ∙ c.in_err-get.ensures.lookup.0
    ∙ ap (nat_lt c.args.p.0) (ap length c.deref.ensures.value ∙ contents_count c.self.inside.parent.config c.self.inside.journal c.self.inside.parent c.self.inside.sides.contents.items c.self.inside.sides.ups.items c.self.inside.sides.downs.items c.self.invariant ∙ ap (λ (r : Run). length r.config.types) c.self.view_is)

-- the place of the process, and that there is such a process
within : (c : goal.After-as_ref) → c.args.p.0 < length c.self.inside.parent.config.types
within c = ltb-true c.args.p.0 (length c.self.inside.parent.config.types) (sym (c.in_ok-get.ensures.lookup.0 ∙ ap (nat_lt c.args.p.0) (ap length c.deref.ensures.value ∙ contents_count c.self.inside.parent.config c.self.inside.journal c.self.inside.parent c.self.inside.sides.contents.items c.self.inside.sides.ups.items c.self.inside.sides.downs.items c.self.invariant)))

held : (c : goal.After-as_ref) → option_map side_of c.in_ok-get.field-0.now ≡ Some (side c.self.inside.parent.config (moments_of c.self.inside.parent.config c.self.inside.journal) c.args.p.0)
held c =
    held_at c.self.inside.parent.config c.self.inside.journal c.self.inside.parent c.self.inside.sides.contents.items c.self.inside.sides.ups.items c.self.inside.sides.downs.items c.self.invariant
    c.args.p.0 c.in_ok-get.field-0.now c.in_ok-get.field-0.now (within c) (subst (λ l. c.in_ok-get.field-0.now ≡ slice_index_or l c.args.p.0 c.in_ok-get.field-0.now) c.deref.ensures.value (c.in_ok-get.ensures.lookup.1))

pub returns-clause-there : goal.returns-clause-there
returns-clause-there c =
    c.as_ref.ensures.variant ∙ is_there c.in_ok-get.field-0.now (side c.self.inside.parent.config (moments_of c.self.inside.parent.config c.self.inside.journal) c.args.p.0) (held c)
    ∙ c.in_ok-get.ensures.lookup.0 ∙ ap (nat_lt c.args.p.0) (ap length c.deref.ensures.value ∙ contents_count c.self.inside.parent.config c.self.inside.journal c.self.inside.parent c.self.inside.sides.contents.items c.self.inside.sides.ups.items c.self.inside.sides.downs.items c.self.invariant ∙ ap (λ (r : Run). length r.config.types) c.self.view_is)

pub returns-clause-shows : goal.returns-clause-shows
returns-clause-shows c =
    subst (λ (r : Run). IfSome c.as_ref.result (λ k. is_honest r.config c.args.p.0 r.journal ≡ true → (x : ContextId) (f : Field) → (seen_of k.now).value x f ≡ view r.config c.args.p.0 x f r.journal)) c.self.view_is
    (shows_at c.self.inside.parent.config c.self.inside.journal c.self.inside.parent c.self.inside.sides.contents.items c.self.inside.sides.ups.items c.self.inside.sides.downs.items c.self.invariant
    c.args.p.0 c.in_ok-get.field-0.now c.as_ref.result (within c) (held c) c.as_ref.ensures.value)

pub returns-clause-process : goal.returns-clause-process
returns-clause-process c =
    number_at c.self.inside.parent.config c.self.inside.journal c.self.inside.parent c.self.inside.sides.contents.items c.self.inside.sides.ups.items c.self.inside.sides.downs.items c.self.invariant
    c.args.p.0 c.in_ok-get.field-0.now c.as_ref.result (held c) c.as_ref.ensures.value

pub returns-clause-answers : goal.returns-clause-answers
returns-clause-answers c =
    subst (λ (r : Run). IfSome c.as_ref.result (λ k. seen_of k.now ≡ seen_now r.config c.args.p.0 (moments_in r))) c.self.view_is
    (answers_at c.self.inside.parent.config c.self.inside.journal c.self.inside.parent c.self.inside.sides.contents.items c.self.inside.sides.ups.items c.self.inside.sides.downs.items c.self.invariant
    c.args.p.0 c.in_ok-get.field-0.now c.as_ref.result (held c) c.as_ref.ensures.value)

-- what holds at all holds of what there is
if_some : {X : Type 0} {P : Type 0} (o : Option X) → P → IfSome o (λ x. P)
if_some None holds = tt
if_some (Some x) holds = holds

pub returns-clause-reverts : goal.returns-clause-reverts
returns-clause-reverts c =
    if_some c.as_ref.result
    (λ honest x f n k. reverts_stand c.args.self.now c.args.p.0 x f n k (subst RunFits c.self.view_is c.self.invariant.fits)
    (subst (λ (r : Run). c.args.p.0 < length r.config.types) c.self.view_is (within c)) honest)

pub returns-clause-killed : goal.returns-clause-killed
returns-clause-killed c =
    if_some c.as_ref.result
    (λ honest cause. only_killed c.args.self.now c.args.p.0 cause (subst RunFits c.self.view_is c.self.invariant.fits)
    (subst (λ (r : Run). c.args.p.0 < length r.config.types) c.self.view_is (within c)) honest)

-- what is missing in a world is missing in a run that fits
without : (c : goal.After-as_ref) (x : ContextId) → IsMissing c.args.self.now c.args.p.0 x → IsWithout c.args.self.now c.args.p.0 x
without c x m = record {
  fits = subst RunFits c.self.view_is c.self.invariant.fits;
  process = subst (λ (r : Run). c.args.p.0 < length r.config.types) c.self.view_is (within c);
  honest = m.honest;
  runs = m.runs;
  live = m.live;
  told = m.told;
  unheld = m.unheld;
}

pub returns-clause-comes : goal.returns-clause-comes
returns-clause-comes c = if_some c.as_ref.result (λ x m. what_is_told c.args.self.now c.args.p.0 x (without c x m))

pub returns-clause-brings : goal.returns-clause-brings
returns-clause-brings c = if_some c.as_ref.result (λ x m none. what_comes c.args.self.now c.args.p.0 x (without c x m) none)
