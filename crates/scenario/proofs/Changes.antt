-- The new values of fields: one member of the object after the other, and field by field.
use Rattle.std.proofs.Common.{◌≡◌, ℕ, zero, suc, ◌+◌, ◌<◌, ◌&&◌, Bool, true, false, cond, List, [], ◌∷◌, length, map, get_or, set, drop, Option, None, Some, Result, Ok, Err, is_some, String, Global, string_bytes, bytes_eq, Less, Equal, inl, inr, refl, sym, ap, subst, ◌∙◌, arith}
use Rattle.std.specs.Prelude.{find}
use Rattle.std.specs.Cmp.Lexicographic.{slice_cmp}
use Rattle.std.specs.Ordering.{nat_cmp}
use Rattle.std.specs.List.{AllByRecursion}
use Rattle.std.specs.List.Sorted.{IsStrictlySortedBy}
use Rattle.std.specs.Map.{keys_of}
use Rattle.std.specs.String.{string_cmp}
use Rattle.std.proofs.lemmas.Bool.{cases_eq}
use Rattle.std.proofs.lemmas.Cmp.{nat_list_cmp_total, tied_itself}
use Rattle.std.proofs.lemmas.List.{drop_more, length-drop, length-set, get_or-set_same, get_or-set_other, nil_from_length}
use Rattle.std.proofs.lemmas.Slice.Eq.{bytes_eq-Decides}
use Rattle.serde_json.specs.Data.{Data, Members}
use Rattle.serde_json.specs.Find.{get_member}
use Rattle.serde_json.specs.View.{view, members_view}
use Rattle.serde_json.proofs.Views.{Entry, member_here, member_later}
use Rattle.field_table.specs.declared.field.Field.{Field}
use Rattle.field_table.specs.declared.field.Field.TheVariants.{Name, Closed, ExplicitActive, CurrentInnerWindowId, OpenerId, FullZoom, TextZoom, Muted, MessageManagerGroup, UserAgentOverride, AllowContentRetargeting, SandboxFlags, IsInBFCache, Loading, DefaultLoadFlags, DisplayMode}
use Rattle.field_table.specs.declared.value.Value.{Value}
use Rattle.field_table.specs.declared.value.ValueFault.{ValueFault}
use Rattle.field_table.specs.Field.{fields, number, name, kind, field_of_name, row}
use Rattle.field_table.specs.Reading.{value_of}
use Rattle.field_table.proofs.Tables.{stands, Numbered, fields_numbered, at_number}
use Rattle.transaction.specs.Transaction.{Changes, nothing, new_value}
use Rattle.scenario.specs.declared.fault.ReadFault.{ReadFault}
use Rattle.scenario.specs.declared.fault.ReadFault.TheVariants.{Shape}
use Rattle.fission_ids.specs.Gives.{FailsWith}
use Rattle.scenario.specs.Faults.{is_memory, ◌>>=◌, or_shape, asks}
use Rattle.scenario.specs.Members.{is_field_name, all_named}
use Rattle.scenario.specs.Reading.{or_no_value, change_of, changes_of, named_change, named_changes}
use Rattle.scenario.proofs.Loop.{and_then, bind_fails, FailsAt, at_bind}

-- ---- names

first_passes : (p : Field → Bool) (g : Field) (later : Option Field) (f : Field) (b : Bool) → p g ≡ b → (later ≡ Some f → p f ≡ true) → cond b (Some g) later ≡ Some f → p f ≡ true
first_passes p g later f true is rest e = let same : g ≡ f = cc in subst (λ (h : Field). p h ≡ true) same is
first_passes p g later f false is rest e = rest e

-- what is found passes the test
passes : (p : Field → Bool) (fs : List Field) (f : Field) → find p fs ≡ Some f → p f ≡ true
passes p [] f e = absurd cc
passes p (g ∷ fs) f e = first_passes p g (find p fs) f (p g) refl (passes p fs f) e

name_of_key : (k : List ℕ) (f : Field) → field_of_name k ≡ Some f → name f ≡ k
name_of_key k f e = (bytes_eq-Decides (name f) k).0 (passes (λ g. bytes_eq (name g) k) fields f e)

-- each name is that of one field
names : (f : Field) → field_of_name (name f) ≡ Some f
unfolding row
names Name = refl
names Closed = refl
names ExplicitActive = refl
names CurrentInnerWindowId = refl
names OpenerId = refl
names FullZoom = refl
names TextZoom = refl
names Muted = refl
names MessageManagerGroup = refl
names UserAgentOverride = refl
names AllowContentRetargeting = refl
names SandboxFlags = refl
names IsInBFCache = refl
names Loading = refl
names DefaultLoadFlags = refl
names DisplayMode = refl

abbrev found : Field → Option Field
found f = Some f

names_differ : (f g : Field) → (number g ≡ number f → ⊥) → name g ≡ name f → ⊥
names_differ f g other same =
    let e : found g ≡ found f = sym (names g) ∙ ap field_of_name same ∙ names f in
    let is : g ≡ f = cc in
    other (ap number is)

-- ---- each field of a list

abbrev each : (Field → Result (Option Value) ReadFault) → List Field → Result Changes ReadFault
each read [] = Ok []
each read (f ∷ fs) = and_then (read f) (each read fs)

each_same : (read other : Field → Result (Option Value) ReadFault) → ((f : Field) → read f ≡ other f) → (fs : List Field) → each read fs ≡ each other fs
each_same read other same [] = refl
each_same read other same (f ∷ fs) = ap (λ r. and_then r (each read fs)) (same f) ∙ ap (λ r. and_then (other f) r) (each_same read other same fs)

each_ok : (h : Field → Option Value) (fs : List Field) → each (λ f. Ok (h f)) fs ≡ Ok (map h fs)
each_ok h [] = refl
each_ok h (f ∷ fs) = ap (λ (r : Result Changes ReadFault). and_then (Ok (h f)) r) (each_ok h fs)

fails_first : (place : ℕ) (one : Result (Option Value) ReadFault) (after : Result Changes ReadFault) → one ≡ Err (Shape place) → and_then one after ≡ Err (Shape place)
fails_first place one after e = ap (λ (r : Result (Option Value) ReadFault). and_then r after) e

fails_later : (place : ℕ) (one : Result (Option Value) ReadFault) (after : Result Changes ReadFault) → FailsAt place one → after ≡ Err (Shape place) → and_then one after ≡ Err (Shape place)
fails_later place (Ok x) after at e = ap (λ (r : Result Changes ReadFault). and_then (Ok x) r) e
fails_later place (Err fault) after at e = cc

each_fails : (place : ℕ) (read : Field → Result (Option Value) ReadFault) → ((f : Field) → FailsAt place (read f)) → (fs : List Field) (i : ℕ) (d : Field) → i < length fs
    → read (get_or fs i d) ≡ Err (Shape place) → each read fs ≡ Err (Shape place)
each_fails place read at [] i d lt e = absurd (omega arith)
each_fails place read at (f ∷ fs) zero d lt e = fails_first place (read f) (each read fs) e
each_fails place read at (f ∷ fs) (suc i) d lt e = fails_later place (read f) (each read fs) (at f) (each_fails place read at fs i d (omega arith) e)

-- ---- tables of changes

whole_from : (k : ℕ) (fs : List Field) (t : Changes) → Numbered k fs → length (drop k t) ≡ length fs → map (new_value t) fs ≡ drop k t
whole_from k [] t at len = sym (nil_from_length (drop k t) len)
whole_from k (f ∷ fs) t at len =
    let one : k + 1 ≡ suc k = omega arith in
    let lt : k < length t = omega (arith, length-drop k t) in
    let rest : length (drop (suc k) t) ≡ length fs = omega (arith, length-drop k t, length-drop (suc k) t) in
    ap (λ (n : ℕ). get_or t n None ∷ map (new_value t) fs) at.0 ∙ ap (λ (cs : Changes). get_or t k None ∷ cs) (whole_from (suc k) fs t at.1 rest) ∙ sym (drop_more t k None lt ∙ ap (λ (n : ℕ). get_or t k None ∷ drop n t) one)

-- changes are what they have for each field
whole_is : (t : Changes) → length t ≡ length fields → map (new_value t) fields ≡ t
whole_is t len = whole_from 0 fields t fields_numbered len

-- ---- one member more

-- what a field has, with what it had before
abbrev with_old : Option Value → Option Value → Option Value
with_old old None = old
with_old old (Some v) = Some v

abbrev read_at : ℕ → Changes → Members → Field → Result (Option Value) ReadFault
read_at place t ms f = change_of place f (get_member (name f) ms) >>= λ c. Ok (with_old (new_value t f) c)

value_at : (place : ℕ) (r : Result Value ValueFault) → FailsAt place (or_no_value place r)
value_at place (Ok v) = tt
value_at place (Err fault) = refl

change_at : (place : ℕ) (f : Field) (found : Option Data) → FailsAt place (change_of place f found)
change_at place f None = tt
change_at place f (Some d) = at_bind {A = Value} {B = Option Value} place (or_no_value place (value_of (kind f) d)) (λ v. Ok (Some v)) (value_at place (value_of (kind f) d)) (λ v. tt)

read_fails_at : (place : ℕ) (t : Changes) (ms : Members) (f : Field) → FailsAt place (read_at place t ms f)
read_fails_at place t ms f = at_bind {A = Option Value} {B = Option Value} place (change_of place f (get_member (name f) ms)) (λ c. Ok (with_old (new_value t f) c)) (change_at place f (get_member (name f) ms)) (λ c. tt)

other_key : (e x : String Global) → string_cmp e x ≡ Less → string_bytes e ≡ string_bytes x → ⊥
other_key e x less same =
    let tied : slice_cmp nat_cmp (string_bytes e) (string_bytes e) ≡ Equal = tied_itself nat_list_cmp_total (string_bytes e) in
    let here : slice_cmp nat_cmp (string_bytes e) (string_bytes e) ≡ Less = ap (λ k. slice_cmp nat_cmp (string_bytes e) k) same ∙ less in
    absurd cc

-- no later member has the key
none_later : (e : Entry) (es : List Entry) → AllByRecursion (λ y. string_cmp e.0 y ≡ Less) (keys_of es) → get_member (string_bytes e.0) (members_view es) ≡ None
none_later e [] above = refl
none_later e (x ∷ es) above = member_later (string_bytes e.0) x es (other_key e.0 x.0 above.0) ∙ none_later e es above.1

-- a member whose key names f, and whose value is v
record Names (place : ℕ) (e : Entry) (f : Field) (v : Value) : Type 0 where
  key : name f ≡ string_bytes e.0
  value : or_no_value place (value_of (kind f) (view e.1)) ≡ Ok v

abbrev as_change : Value → Result (Option Value) ReadFault
as_change v = Ok (Some v)

abbrev no_change : Result (Option Value) ReadFault
no_change = Ok None

abbrev over : Changes → Field → Option Value → Result (Option Value) ReadFault
over t f c = Ok (with_old (new_value t f) c)

here_same : (place : ℕ) (t : Changes) (e : Entry) (es : List Entry) (f : Field) (v : Value) → length t ≡ length fields → AllByRecursion (λ y. string_cmp e.0 y ≡ Less) (keys_of es)
    → Names place e f v → read_at place (set t (number f) (Some v)) (members_view es) f ≡ read_at place t (members_view (e ∷ es)) f
here_same place t e es f v len above is =
    let new = set t (number f) (Some v) in
    let gone : get_member (name f) (members_view es) ≡ None = ap (λ k. get_member k (members_view es)) is.key ∙ none_later e es above in
    let there : get_member (name f) (members_view (e ∷ es)) ≡ Some (view e.1) = member_here (name f) e es is.key in
    let within : number f < length t = omega (arith, (stands f).below) in
    let at : new_value new f ≡ Some v = get_or-set_same t (number f) (Some v) None within in
    let first : read_at place new (members_view es) f ≡ as_change v = ap (λ o. change_of place f o >>= over new f) gone ∙ ap (λ (o : Option Value). Ok o) at in
    let second : read_at place t (members_view (e ∷ es)) f ≡ as_change v = ap (λ o. change_of place f o >>= over t f) there ∙ ap (λ r. (r >>= as_change) >>= over t f) is.value in
    first ∙ sym second

other_same : (place : ℕ) (t : Changes) (e : Entry) (es : List Entry) (f g : Field) (v : Value) → Names place e f v → (number g ≡ number f → ⊥)
    → read_at place (set t (number f) (Some v)) (members_view es) g ≡ read_at place t (members_view (e ∷ es)) g
other_same place t e es f g v is other =
    let new = set t (number f) (Some v) in
    let later : get_member (name g) (members_view (e ∷ es)) ≡ get_member (name g) (members_view es) = member_later (name g) e es (λ same. names_differ f g other (same ∙ sym is.key)) in
    let kept : new_value new g ≡ new_value t g = get_or-set_other t (number f) (number g) (Some v) None other in
    ap (λ (old : Option Value). change_of place g (get_member (name g) (members_view es)) >>= λ c. Ok (with_old old c)) kept ∙ ap (λ o. change_of place g o >>= over t g) (sym later)

same_field : (f g : Field) → number g ≡ number f → g ≡ f
same_field f g e = sym ((stands g).at Name) ∙ ap (λ (n : ℕ). get_or fields n Name) e ∙ (stands f).at Name

step_same : (place : ℕ) (t : Changes) (e : Entry) (es : List Entry) (f : Field) (v : Value) → length t ≡ length fields → AllByRecursion (λ y. string_cmp e.0 y ≡ Less) (keys_of es)
    → Names place e f v → (g : Field) → read_at place (set t (number f) (Some v)) (members_view es) g ≡ read_at place t (members_view (e ∷ es)) g
step_same place t e es f v len above is g = elim (cases_eq (number g) (number f)) [
  | inl same ↦ subst (λ (h : Field). read_at place (set t (number f) (Some v)) (members_view es) h ≡ read_at place t (members_view (e ∷ es)) h) (sym (same_field f g same)) (here_same place t e es f v len above is)
  | inr other ↦ other_same place t e es f g v is other
]

-- ---- one member after the other

-- the changes with those of the members
unfoldable pub put_in : ℕ → Changes → List Entry → Result Changes ReadFault
put_in place t [] = Ok t
put_in place t (e ∷ es) = named_change place (string_bytes e.0) (view e.1) >>= λ c. put_in place (set t (number c.0) (Some c.1)) es

-- field by field
abbrev read_all : ℕ → Changes → List Entry → Result Changes ReadFault
read_all place t es = asks place (all_named is_field_name (members_view es)) (each (read_at place t (members_view es)) fields)

abbrev IsReadAll : ℕ → List Entry → Type 0
IsReadAll place es = (t : Changes) → length t ≡ length fields → put_in place t es ≡ read_all place t es

asks_shape : (place : ℕ) (b : Bool) (r : Result Changes ReadFault) → r ≡ Err (Shape place) → asks place b r ≡ Err (Shape place)
asks_shape place true r e = e
asks_shape place false r e = refl

-- a member's field, if it has one, and its value
abbrev change_in : ℕ → Option Field → Data → Result (Field × Value) ReadFault
change_in place o d = or_shape place o >>= λ f. or_no_value place (value_of (kind f) d) >>= λ v. Ok (f, v)

-- the member's value, and the rest
abbrev value_then : (Field × Value → Result Changes ReadFault) → Field → Result Value ReadFault → Result Changes ReadFault
value_then after f r = (r >>= λ v. Ok (f, v)) >>= after

with_value : (place : ℕ) (t : Changes) (e : Entry) (es : List Entry) (f : Field) (r : Result Value ReadFault) → length t ≡ length fields → AllByRecursion (λ y. string_cmp e.0 y ≡ Less) (keys_of es) → IsReadAll place es
    → name f ≡ string_bytes e.0 → or_no_value place (value_of (kind f) (view e.1)) ≡ r → FailsAt place r
    → value_then (λ c. put_in place (set t (number c.0) (Some c.1)) es) f r ≡ asks place (all_named is_field_name (members_view es)) (each (read_at place t (members_view (e ∷ es))) fields)
with_value place t e es f (Ok v) len above rest key is at =
    let new = set t (number f) (Some v) in
    rest new (length-set t (number f) (Some v) ∙ len)
    ∙ ap (λ r. asks place (all_named is_field_name (members_view es)) r)
    (each_same (read_at place new (members_view es)) (read_at place t (members_view (e ∷ es))) (step_same place t e es f v len above (record { key = key; value = is })) fields)
with_value place t e es f (Err fault) len above rest key is at =
    let read = read_at place t (members_view (e ∷ es)) in
    let there : get_member (name f) (members_view (e ∷ es)) ≡ Some (view e.1) = member_here (name f) e es key in
    let fails : read f ≡ Err (Shape place) = ap (λ o. change_of place f o >>= over t f) there ∙ ap (λ r. (r >>= as_change) >>= over t f) (is ∙ ap (λ x. Err x) at) in
    let all : each read fields ≡ Err (Shape place) = each_fails place read (read_fails_at place t (members_view (e ∷ es))) fields (number f) f (stands f).below (ap read ((stands f).at f) ∙ fails) in
    ap (λ x. Err x) at ∙ sym (asks_shape place (all_named is_field_name (members_view es)) (each read fields) all)

with_field : (place : ℕ) (t : Changes) (e : Entry) (es : List Entry) (o : Option Field) → length t ≡ length fields → AllByRecursion (λ y. string_cmp e.0 y ≡ Less) (keys_of es) → IsReadAll place es
    → field_of_name (string_bytes e.0) ≡ o
    → (change_in place o (view e.1) >>= λ c. put_in place (set t (number c.0) (Some c.1)) es)
    ≡ asks place (is_some o && all_named is_field_name (members_view es)) (each (read_at place t (members_view (e ∷ es))) fields)
with_field place t e es None len above rest is = refl
with_field place t e es (Some f) len above rest is = with_value place t e es f (or_no_value place (value_of (kind f) (view e.1))) len above rest (name_of_key (string_bytes e.0) f is) refl (value_at place (value_of (kind f) (view e.1)))

put_is : (place : ℕ) (es : List Entry) → IsStrictlySortedBy string_cmp (keys_of es) → IsReadAll place es
unfolding put_in IsStrictlySortedBy
put_is place [] sorted t len = sym (each_ok (new_value t) fields ∙ ap (λ (cs : Changes). Ok cs) (whole_is t len))
put_is place (e ∷ es) sorted t len = with_field place t e es (field_of_name (string_bytes e.0)) len sorted.0 (put_is place es sorted.1) refl

-- ---- all of them

nothing_old : (r : Result (Option Value) ReadFault) → (r >>= λ c. Ok (with_old None c)) ≡ r
nothing_old (Ok None) = refl
nothing_old (Ok (Some v)) = refl
nothing_old (Err fault) = refl

from_nothing : (place : ℕ) (ms : Members) (f : Field) → read_at place nothing ms f ≡ change_of place f (get_member (name f) ms)
from_nothing place ms f = ap (λ (old : Option Value). change_of place f (get_member (name f) ms) >>= λ c. Ok (with_old old c)) (at_number (λ _. None) None f) ∙ nothing_old (change_of place f (get_member (name f) ms))

each_change : (place : ℕ) (ms : Members) (fs : List Field) → each (λ f. change_of place f (get_member (name f) ms)) fs ≡ changes_of place fs ms
unfolding changes_of
each_change place ms [] = refl
each_change place ms (f ∷ fs) = ap (λ r. and_then (change_of place f (get_member (name f) ms)) r) (each_change place ms fs)

pub all_put : (place : ℕ) (es : List Entry) → IsStrictlySortedBy string_cmp (keys_of es) → put_in place nothing es ≡ named_changes place (members_view es)
all_put place es sorted =
    let ms = members_view es in
    put_is place es sorted nothing refl
    ∙ ap (λ r. asks place (all_named is_field_name ms) r) (each_same (read_at place nothing ms) (λ f. change_of place f (get_member (name f) ms)) (from_nothing place ms) fields ∙ each_change place ms fields)

-- ---- the loop

pub put_step : (place : ℕ) (t : Changes) (e : Entry) (es rest : List Entry) (f : Field) (v : Value) (total : Result Changes ReadFault) → rest ≡ e ∷ es
    → named_change place (string_bytes e.0) (view e.1) ≡ Ok (f, v) → put_in place t rest ≡ total → put_in place (set t (number f) (Some v)) es ≡ total
unfolding put_in
put_step place t e es rest f v total is read so_far =
    sym (ap (λ (r : Result (Field × Value) ReadFault). r >>= λ c. put_in place (set t (number c.0) (Some c.1)) es) read) ∙ sym (ap (λ (xs : List Entry). put_in place t xs) is) ∙ so_far

pub put_end : (place : ℕ) (t : Changes) (rest : List Entry) (total : Result Changes ReadFault) → rest ≡ [] → put_in place t rest ≡ total → total ≡ Ok t
unfolding put_in
put_end place t rest total is so_far = sym so_far ∙ ap (λ (xs : List Entry). put_in place t xs) is

pub put_fails : (fault : ReadFault) (place : ℕ) (t : Changes) (e : Entry) (es rest : List Entry) (total : Result Changes ReadFault) → rest ≡ e ∷ es
    → FailsWith (is_memory fault) fault (named_change place (string_bytes e.0) (view e.1)) → put_in place t rest ≡ total → FailsWith (is_memory fault) fault total
unfolding put_in
put_fails fault place t e es rest total is read so_far =
    bind_fails fault (named_change place (string_bytes e.0) (view e.1)) (λ c. put_in place (set t (number c.0) (Some c.1)) es) (put_in place t rest) total (ap (λ (xs : List Entry). put_in place t xs) is) read so_far
