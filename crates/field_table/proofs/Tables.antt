-- Fields and their numbers, and tables that have something for each field.
use Rattle.std.proofs.Common.{◌≡◌, ℕ, zero, suc, ◌+◌, ◌<◌, List, [], ◌∷◌, length, get_or, map, true, false, refl, ap, ◌∙◌, arith, lit<}
use Rattle.std.proofs.lemmas.List.{get_or-map}
use Rattle.field_table.specs.declared.field.Field.{Field}
use Rattle.field_table.specs.declared.field.Field.TheVariants.{Name, Closed, ExplicitActive, CurrentInnerWindowId, OpenerId, FullZoom, TextZoom, Muted, MessageManagerGroup, UserAgentOverride, AllowContentRetargeting, SandboxFlags, IsInBFCache, Loading, DefaultLoadFlags, DisplayMode}
use Rattle.field_table.specs.declared.kind.Kind.{Kind}
use Rattle.field_table.specs.declared.kind.Kind.TheVariants as kinds
use Rattle.field_table.specs.declared.value.Value.{Value}
use Rattle.field_table.specs.declared.value.Value.TheVariants.{Flag}
use Rattle.field_table.specs.Field.{fields, number, kind, initial}
use Rattle.field_table.specs.Table.{value_in}
use Rattle.field_table.specs.Value.{is_of, initial_of}

-- ---- the numbers of the fields

-- a field is the one that stands at its number
pub record StandsAtNumber (f : Field) : Type 0 where
  pub below : number f < length fields
  pub at : (d : Field) → get_or fields (number f) d ≡ f

pub stands : (f : Field) → StandsAtNumber f
stands Name = record { below = lit< tt; at = λ d. refl }
stands Closed = record { below = lit< tt; at = λ d. refl }
stands ExplicitActive = record { below = lit< tt; at = λ d. refl }
stands CurrentInnerWindowId = record { below = lit< tt; at = λ d. refl }
stands OpenerId = record { below = lit< tt; at = λ d. refl }
stands FullZoom = record { below = lit< tt; at = λ d. refl }
stands TextZoom = record { below = lit< tt; at = λ d. refl }
stands Muted = record { below = lit< tt; at = λ d. refl }
stands MessageManagerGroup = record { below = lit< tt; at = λ d. refl }
stands UserAgentOverride = record { below = lit< tt; at = λ d. refl }
stands AllowContentRetargeting = record { below = lit< tt; at = λ d. refl }
stands SandboxFlags = record { below = lit< tt; at = λ d. refl }
stands IsInBFCache = record { below = lit< tt; at = λ d. refl }
stands Loading = record { below = lit< tt; at = λ d. refl }
stands DefaultLoadFlags = record { below = lit< tt; at = λ d. refl }
stands DisplayMode = record { below = lit< tt; at = λ d. refl }

-- fields that stand in the order of their numbers, from k on
abbrev pub Numbered : ℕ → List Field → Type 0
Numbered k [] = Unit {0}
Numbered k (f ∷ fs) = (number f ≡ k) × Numbered (suc k) fs

pub fields_numbered : Numbered 0 fields
fields_numbered = (refl, (refl, (refl, (refl, (refl, (refl, (refl, (refl, (refl, (refl, (refl, (refl, (refl, (refl, (refl, (refl, tt))))))))))))))))

numbered-at : (k : ℕ) (fs : List Field) (i : ℕ) (d : Field) → Numbered k fs → i < length fs → number (get_or fs i d) ≡ k + i
numbered-at k [] i d at within = absurd (omega arith)
numbered-at k (f ∷ fs) zero d at within = at.0 ∙ omega arith
numbered-at k (f ∷ fs) (suc i) d at within = numbered-at (suc k) fs i d at.1 (omega arith) ∙ omega arith

-- the number of the field at a place is the place
pub number-at : (i : ℕ) (d : Field) → i < length fields → number (get_or fields i d) ≡ i
number-at i d within = numbered-at 0 fields i d fields_numbered within ∙ omega arith

-- what a list by the fields' numbers has for a field
pub at_number : {A : Type 0} (h : Field → A) (d : A) (f : Field) → get_or (map h fields) (number f) d ≡ h f
at_number h d f = get_or-map h fields (number f) f d (stands f).below ∙ ap h ((stands f).at f)

-- ---- tables

-- what a table of a value for each field has for a field
pub value_in-map : (g : Field → Value) (f : Field) → value_in (map g fields) f ≡ g f
value_in-map g f = at_number g (Flag false) f

of_its_kind : (k : Kind) → is_of k (initial_of k) ≡ true
of_its_kind (kinds.Flag on) = refl
of_its_kind (kinds.Number max n) = refl
of_its_kind kinds.Words = refl
of_its_kind kinds.Window = refl
of_its_kind kinds.Context = refl

-- what a field holds in a new context is of its kind
pub is_of-initial : (f : Field) → is_of (kind f) (initial f) ≡ true
is_of-initial f = of_its_kind (kind f)
