-- A process is taken out of its place, makes a step, and is put back.
use Rattle.std.proofs.Common.{◌≡◌, ℕ, zero, suc, ◌<◌, List, [], ◌∷◌, length, get_or, set, Option, None, Some, unwrap_or, refl, sym, ap, ◌∙◌, arith}
use Rattle.std.specs.Option.{option_map}
use Rattle.std.proofs.lemmas.List.{get_or-map, map-set, set-set}
use Rattle.wire_msgs.specs.declared.action.Action.{Action}
use Rattle.wire_msgs.specs.declared.bundle.DownBundle.{DownBundle}
use Rattle.protocol.specs.Seen.{Seen}
use Rattle.protocol.specs.SeenAfter.{seen_after}
use Rattle.protocol.specs.OwnActs.{action_step}
use Rattle.protocol.specs.Take.{Step, bundle_step}
use Rattle.content_core.specs.Content.{Kept, seen_of}
use Rattle.content_core.specs.Moved.{MovedBy}
use Rattle.content_core.specs.declared.moved.Moved.{Moved}
use Rattle.world.specs.Sides.{Side, side_of, sides_of, side_at, no_side, sides_after, step_of_action, step_of_bundle}

pub any_default : {A : Type 0} (xs : List A) (i : ℕ) (d e : A) → i < length xs → get_or xs i d ≡ get_or xs i e
any_default [] i d e lt = absurd (omega (arith, lt))
any_default (x ∷ xs) zero d e lt = refl
any_default (x ∷ xs) (suc i) d e lt = any_default xs i d e (omega (arith, lt))

-- the process that stands at a place
pub side_is : (contents : List (Option Kept)) (p : ℕ) (o : Option Kept) (core : Kept) → p < length contents → o ≡ get_or contents p o → o ≡ Some core
    → side_at p (sides_of contents) ≡ side_of core
side_is contents p o core lt at is =
    ap (λ (s : Option Side). unwrap_or s no_side) (get_or-map (option_map side_of) contents p o None lt ∙ ap (option_map side_of) (sym at ∙ is))

put_back : (contents : List (Option Kept)) (p : ℕ) (taken o : Option Kept) (core : Kept) (step : Step Seen) (moved : Moved) → p < length contents → o ≡ get_or contents p o → o ≡ Some core
    → MovedBy core step moved → sides_of (set (set contents p taken) p (Some moved.core)) ≡ sides_after p step (sides_of contents)
put_back contents p taken o core step moved lt at is by =
    let before : side_at p (sides_of contents) ≡ side_of core = side_is contents p o core lt at is in
    let same : side_of moved.core ≡ record (side_of core) { seen = step.kept } = side_same by.process by.seen in
    ap sides_of (set-set contents p taken (Some moved.core))
    ∙ map-set (option_map side_of) contents p (Some moved.core)
    ∙ ap (λ (s : Side). set (sides_of contents) p (Some s)) (same ∙ ap (λ (s : Side). record s { seen = step.kept }) (sym before))
  where
    side_same : moved.core.process ≡ core.process → seen_of moved.core ≡ step.kept → side_of moved.core ≡ record (side_of core) { seen = step.kept }
    side_same e1 e2 = cc

pub put_back_acted : (contents : List (Option Kept)) (p : ℕ) (taken o : Option Kept) (core : Kept) (action : Action) (moved : Moved) → p < length contents → o ≡ get_or contents p o → o ≡ Some core
    → MovedBy core (action_step (λ s. s) (seen_after core.process) core.process action (seen_of core)) moved
    → sides_of (set (set contents p taken) p (Some moved.core)) ≡ sides_after p (step_of_action p action (sides_of contents)) (sides_of contents)
put_back_acted contents p taken o core action moved lt at is by =
    put_back contents p taken o core (action_step (λ s. s) (seen_after core.process) core.process action (seen_of core)) moved lt at is by
    ∙ ap (λ (s : Side). sides_after p (action_step (λ k. k) (seen_after s.process) s.process action s.seen) (sides_of contents)) (sym (side_is contents p o core lt at is))

pub put_back_taken : (contents : List (Option Kept)) (p : ℕ) (taken o : Option Kept) (core : Kept) (b : DownBundle) (moved : Moved) → p < length contents → o ≡ get_or contents p o → o ≡ Some core
    → MovedBy core (bundle_step (λ s. s) (seen_after core.process) core.process b (seen_of core)) moved
    → sides_of (set (set contents p taken) p (Some moved.core)) ≡ sides_after p (step_of_bundle p b (sides_of contents)) (sides_of contents)
put_back_taken contents p taken o core b moved lt at is by =
    put_back contents p taken o core (bundle_step (λ s. s) (seen_after core.process) core.process b (seen_of core)) moved lt at is by
    ∙ ap (λ (s : Side). sides_after p (bundle_step (λ k. k) (seen_after s.process) s.process b s.seen) (sides_of contents)) (sym (side_is contents p o core lt at is))
