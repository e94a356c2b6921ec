-- What a world that stands for its journal has for one process, and what its sides show.
use Rattle.std.proofs.Common.{◌≡◌, ℕ, ◌==◌, ◌<◌, true, List, [], ◌∷◌, length, map, get_or, Option, None, Some, IsSome, IfSome, unwrap_or, is_some, Bor, refl, sym, ap, subst, ◌∙◌, arith}
use Rattle.std.specs.Option.{option_map, option_copied}
use Rattle.std.proofs.lemmas.Bool.Decides.{nat_tests}
use Rattle.std.proofs.lemmas.List.{length-map, get_or-map}
use Rattle.fission_ids.specs.declared.context.ContextId.{ContextId}
use Rattle.field_table.specs.declared.field.Field.{Field}
use Rattle.wire_msgs.specs.declared.bundle.DownBundle.{DownBundle}
use Rattle.wire_msgs.specs.declared.bundle.UpBundle.{UpBundle}
use Rattle.wire_msgs.specs.declared.config.Config.{Config}
use Rattle.protocol.specs.Start.{numbers}
use Rattle.content_core.specs.Content.{Kept as ContentKept, seen_of}
use Rattle.parent_core.specs.Parent.{Kept as ParentKept, facts_of}
use Rattle.model.specs.Journal.{Journal}
use Rattle.model.specs.Links.{up_waiting, down_waiting, is_nothing}
use Rattle.model.specs.Moments.{facts_now, seen_now, moments_of}
use Rattle.model.specs.View.{view, parent_view, is_honest}
use Rattle.model.proofs.FieldLaws.{process_shows}
use Rattle.world.specs.Came.{State}
use Rattle.world.specs.Sides.{Side, no_side, side_of, sides_of, runs_at}
use Rattle.world.specs.Stands.{side, state_of, Stands}
use Rattle.world.proofs.Lists.{length-numbers, get_or-map-numbers}
use Rattle.world.proofs.PutBack.{any_default}

length-by_numbers : {A : Type 0} (f : ℕ → A) (n : ℕ) → length (map f (numbers 0 n)) ≡ n
length-by_numbers f n = length-map (numbers 0 n) f ∙ length-numbers 0 n

module _ (c : Config) (j : Journal) (parent : ParentKept) (contents : List (Option ContentKept)) (ups : List (List UpBundle)) (downs : List (List DownBundle))
    (stands : Stands c j (state_of parent contents ups downs)) where
  -- ---- links

  pub ups_count : length ups ≡ length c.types
  ups_count = ap (λ (s : State). length s.ups) stands.is ∙ length-by_numbers (λ p. up_waiting p (moments_of c j)) (length c.types)

  pub downs_count : length downs ≡ length c.types
  downs_count = ap (λ (s : State). length s.downs) stands.is ∙ length-by_numbers (λ p. down_waiting p (moments_of c j)) (length c.types)

  pub up_at : (p : ℕ) → p < length c.types → get_or ups p [] ≡ up_waiting p (moments_of c j)
  up_at p lt = ap (λ (s : State). get_or s.ups p []) stands.is ∙ get_or-map-numbers (λ q. up_waiting q (moments_of c j)) (length c.types) p [] lt

  pub down_at : (p : ℕ) → p < length c.types → get_or downs p [] ≡ down_waiting p (moments_of c j)
  down_at p lt = ap (λ (s : State). get_or s.downs p []) stands.is ∙ get_or-map-numbers (λ q. down_waiting q (moments_of c j)) (length c.types) p [] lt

  -- ---- the sides

  pub contents_count : length contents ≡ length c.types
  contents_count = sym (length-map contents (option_map side_of)) ∙ ap (λ (s : State). length s.sides) stands.is ∙ length-by_numbers (λ p. Some (side c (moments_of c j) p)) (length c.types)

  pub parent_shows : (x : ContextId) (f : Field) → (facts_of parent).contexts.value x f ≡ parent_view c x f j
  parent_shows x f = ap (λ (s : State). s.facts.contexts.value x f) stands.is

  -- the parent answers what is told by looking back
  pub parent_answers : facts_of parent ≡ facts_now c (moments_of c j)
  parent_answers = ap (λ (s : State). s.facts) stands.is

  pub side_at : (p : ℕ) → p < length c.types → get_or (sides_of contents) p None ≡ Some (side c (moments_of c j) p)
  side_at p lt = ap (λ (s : State). get_or s.sides p None) stands.is ∙ get_or-map-numbers (λ q. Some (side c (moments_of c j) q)) (length c.types) p None lt

  -- whether it runs
  pub runs_is : (p : ℕ) → p < length c.types → runs_at p (sides_of contents) ≡ (seen_now c p (moments_of c j)).running
  runs_is p lt = ap (λ (o : Option Side). (unwrap_or o no_side).seen.running) (side_at p lt)

-- a list with no item
pub nothing_is : {X : Type 0} (xs : List X) → (length xs == 0) ≡ is_nothing xs
nothing_is [] = refl
nothing_is (x ∷ xs) = grind (arith, nat_tests)

pub there_is : (o : Option ContentKept) (s : Side) → option_map side_of o ≡ Some s → IsSome o
there_is None s e = cc
there_is (Some k) s e = refl

module _ (c : Config) (j : Journal) (parent : ParentKept) (contents : List (Option ContentKept)) (ups : List (List UpBundle)) (downs : List (List DownBundle))
    (stands : Stands c j (state_of parent contents ups downs)) where
  -- the place of a process isn't empty
  pub held_at : (p : ℕ) (o d : Option ContentKept) → p < length c.types → o ≡ get_or contents p d → option_map side_of o ≡ Some (side c (moments_of c j) p)
  held_at p o d lt at =
      let within : p < length contents = subst (λ n. p < n) (sym (contents_count c j parent contents ups downs stands)) lt in
      ap (option_map side_of) (at ∙ any_default contents p d None within)
      ∙ sym (get_or-map (option_map side_of) contents p None None within)
      ∙ side_at c j parent contents ups downs stands p lt

  pub there_at : (p : ℕ) → p < length c.types → IsSome (get_or contents p None)
  there_at p lt = there_is (get_or contents p None) (side c (moments_of c j) p) (held_at p (get_or contents p None) None lt refl)

  some_side : (k : ContentKept) (o : Option ContentKept) (p : ℕ) → option_map side_of o ≡ Some (side c (moments_of c j) p) → Some k ≡ o → side_of k ≡ side c (moments_of c j) p
  some_side k o p e1 e2 = cc

  -- what stands there shows the view of the process, if it is honest
  pub shows_at : (p : ℕ) (o : Option ContentKept) (r : Option (Bor ContentKept)) → p < length c.types → option_map side_of o ≡ Some (side c (moments_of c j) p) → option_copied r ≡ o
      → IfSome r (λ k. is_honest c p j ≡ true → (x : ContextId) (f : Field) → (seen_of k.now).value x f ≡ view c p x f j)
  shows_at p o None lt held is = tt
  shows_at p o (Some k) lt held is = λ honest x f.
      let same : side_of k.now ≡ side c (moments_of c j) p = some_side k.now o p held is in
      ap (λ (s : Side). s.seen.value x f) same ∙ process_shows (record { config = c; journal = j }) p x f stands.fits lt honest

  -- it is that process
  pub number_at : (p : ℕ) (o : Option ContentKept) (r : Option (Bor ContentKept)) → option_map side_of o ≡ Some (side c (moments_of c j) p) → option_copied r ≡ o → IfSome r (λ k. k.now.process ≡ p)
  number_at p o None held is = tt
  number_at p o (Some k) held is = ap (λ (s : Side). s.process) (some_side k.now o p held is)

  -- and answers what is told by looking back
  pub answers_at : (p : ℕ) (o : Option ContentKept) (r : Option (Bor ContentKept)) → option_map side_of o ≡ Some (side c (moments_of c j) p) → option_copied r ≡ o → IfSome r (λ k. seen_of k.now ≡ seen_now c p (moments_of c j))
  answers_at p o None held is = tt
  answers_at p o (Some k) held is = ap (λ (s : Side). s.seen) (some_side k.now o p held is)

pub is_there : (o : Option ContentKept) (s : Side) → option_map side_of o ≡ Some s → is_some o ≡ true
is_there None s e = cc
is_there (Some k) s e = refl
