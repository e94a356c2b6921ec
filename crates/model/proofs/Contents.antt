-- What a bundle holds for a field: whether the context comes or goes by it, and the value that is given last.
use Rattle.std.proofs.Common.{◌≡◌, ℕ, Bool, true, false, if◌then◌else◌, Option, None, Some, List, [], ◌∷◌, ◌++◌, map, refl, ap, ap₂, sym, subst, ◌∙◌, arith}
use Rattle.std.specs.Prelude.{nat_lt}
use Rattle.std.specs.List.{AllByRecursion}
use Rattle.std.proofs.lemmas.Bool.{lt-ltb, ltb-true, ltb-false}
use Rattle.fission_ids.specs.declared.context.ContextId.{ContextId}
use Rattle.fission_ids.specs.Ids.{same_context}
use Rattle.field_table.specs.declared.field.Field.{Field}
use Rattle.field_table.specs.declared.value.Value.{Value}
use Rattle.field_table.specs.Field.{initial}
use Rattle.field_table.specs.Table.{value_in, initial_table}
use Rattle.field_table.proofs.Tables.{value_in-map}
use Rattle.wire_msgs.specs.declared.part.DownPart.{DownPart}
use Rattle.wire_msgs.specs.declared.part.DownPart.TheVariants as downs
use Rattle.wire_msgs.specs.declared.part.Known.{Known}
use Rattle.protocol.specs.Fold.{or_later}
use Rattle.protocol.specs.Order.{down_rank, parts_with, parts_with_all, in_order}
use Rattle.protocol.specs.Sayings.{Saying}
use Rattle.protocol.specs.Sayings.Saying.{Wrote}
use Rattle.traces.specs.Field.{Content}
use Rattle.traces.specs.Field.Content.{Nothing, Gives, Begins, Removes, Leaves}
use Rattle.traces.specs.Rules.{IsStay}
use Rattle.traces.specs.Words.{Stage, or_else, after, number_after, leaving_after}
use Rattle.traces.specs.Words.Stage.{Coming, Held, Gone}
use Rattle.trees.specs.Look.{Effect, moved}
use Rattle.trees.specs.Look.Effect.{Stays, Comes, Goes}
use Rattle.model.specs.Lines.{Making, line, is_among}
use Rattle.model.specs.Trees.{comes_if, goes_if, both, says_do, parts_tell}
use Rattle.model.specs.View.{value_for, value_said, given, begun, singles, content_of}
use Rattle.model.proofs.Arranging.{put, put_is, come_all, ComeFirst}
use Rattle.model.proofs.SinglesOrdered.{AllCome, all_come_ordered, single_tells, singles_first}

-- ---- what a content does to the stage

abbrev pub effect_of : Content Value → Effect
effect_of Nothing = Stays
effect_of (Gives v) = Stays
effect_of (Begins v) = Comes
effect_of Removes = Goes
effect_of Leaves = Stays

pub effect_moves : (c : Content Value) (s : Stage) → IsStay c → after c s ≡ moved (effect_of c) s
effect_moves Nothing s stay = refl
effect_moves (Gives v) s stay = refl
effect_moves (Begins v) Coming stay = refl
effect_moves (Begins v) Held stay = refl
effect_moves (Begins v) Gone stay = refl
effect_moves Removes s stay = refl
effect_moves Leaves s stay = absurd stay

given_stay : (o : Option Value) (c : Content Value) → IsStay c → IsStay (given o c)
given_stay None c stay = stay
given_stay (Some v) Nothing stay = tt
given_stay (Some v) (Gives w) stay = tt
given_stay (Some v) (Begins w) stay = tt
given_stay (Some v) Removes stay = tt
given_stay (Some v) Leaves stay = absurd stay

begun_stay : (v : Value) (c : Content Value) → IsStay c → IsStay (begun v c)
begun_stay v Nothing stay = tt
begun_stay v (Gives w) stay = tt
begun_stay v (Begins w) stay = tt
begun_stay v Removes stay = tt
begun_stay v Leaves stay = absurd stay

-- no bundle takes the process out of a group so far
pub content_stays : (x : ContextId) (ln : List ContextId) (fld : Field) (parts : List DownPart) → IsStay (content_of x ln fld parts)
content_stays x ln fld [] = tt
content_stays x ln fld (downs.Create k ∷ parts) = by_same (same_context x k.context) (content_stays x ln fld parts)
  where
    by_same : (b : Bool) → IsStay (content_of x ln fld parts) → IsStay (if b then begun (value_in k.fields fld) (content_of x ln fld parts) else content_of x ln fld parts)
    by_same true stay = begun_stay (value_in k.fields fld) (content_of x ln fld parts) stay
    by_same false stay = stay
content_stays x ln fld (downs.Commit y t ∷ parts) = given_stay (value_for x fld y t) (content_of x ln fld parts) (content_stays x ln fld parts)
content_stays x ln fld (downs.Discard w ∷ parts) = by_line (is_among w ln) (content_stays x ln fld parts)
  where
    by_line : (b : Bool) → IsStay (content_of x ln fld parts) → IsStay (if b then Removes else content_of x ln fld parts)
    by_line true stay = tt
    by_line false stay = stay
content_stays x ln fld (_ ∷ parts) = content_stays x ln fld parts

given_effect : (o : Option Value) (c : Content Value) → IsStay c → effect_of (given o c) ≡ effect_of c
given_effect None c stay = refl
given_effect (Some v) Nothing stay = refl
given_effect (Some v) (Gives w) stay = refl
given_effect (Some v) (Begins w) stay = refl
given_effect (Some v) Removes stay = refl
given_effect (Some v) Leaves stay = absurd stay

begun_effect : (v : Value) (c : Content Value) → IsStay c → effect_of (begun v c) ≡ both Comes (effect_of c)
begun_effect v Nothing stay = refl
begun_effect v (Gives w) stay = refl
begun_effect v (Begins w) stay = refl
begun_effect v Removes stay = refl
begun_effect v Leaves stay = absurd stay

pub content_effect : (x : ContextId) (ln : List ContextId) (fld : Field) (parts : List DownPart) → effect_of (content_of x ln fld parts) ≡ parts_tell x ln parts
content_effect x ln fld [] = refl
content_effect x ln fld (downs.Create k ∷ parts) = by_same (same_context x k.context) (content_effect x ln fld parts)
  where
    by_same : (b : Bool) → effect_of (content_of x ln fld parts) ≡ parts_tell x ln parts
        → effect_of (if b then begun (value_in k.fields fld) (content_of x ln fld parts) else content_of x ln fld parts) ≡ both (comes_if b) (parts_tell x ln parts)
    by_same true e = begun_effect (value_in k.fields fld) (content_of x ln fld parts) (content_stays x ln fld parts) ∙ ap (both Comes) e
    by_same false e = e
content_effect x ln fld (downs.Commit y t ∷ parts) = given_effect (value_for x fld y t) (content_of x ln fld parts) (content_stays x ln fld parts) ∙ content_effect x ln fld parts
content_effect x ln fld (downs.Discard w ∷ parts) = by_line (is_among w ln) (content_effect x ln fld parts)
  where
    by_line : (b : Bool) → effect_of (content_of x ln fld parts) ≡ parts_tell x ln parts
        → effect_of (if b then Removes else content_of x ln fld parts) ≡ both (goes_if b) (parts_tell x ln parts)
    by_line true e = refl
    by_line false e = e
content_effect x ln fld (_ ∷ parts) = content_effect x ln fld parts

-- a bundle changes the stage as it tells
pub content_moves : (x : ContextId) (ln : List ContextId) (fld : Field) (parts : List DownPart) (s : Stage) → after (content_of x ln fld parts) s ≡ moved (parts_tell x ln parts) s
content_moves x ln fld parts s = effect_moves (content_of x ln fld parts) s (content_stays x ln fld parts) ∙ ap (λ e. moved e s) (content_effect x ln fld parts)

pub number_stays : (c : Content Value) (n : ℕ) → IsStay c → number_after c n ≡ n
number_stays Nothing n stay = refl
number_stays (Gives v) n stay = refl
number_stays (Begins v) n stay = refl
number_stays Removes n stay = refl
number_stays Leaves n stay = absurd stay

pub leaving_stays : (c : Content Value) (m n : ℕ) → IsStay c → leaving_after c m n ≡ n
leaving_stays Nothing m n stay = refl
leaving_stays (Gives v) m n stay = refl
leaving_stays (Begins v) m n stay = refl
leaving_stays Removes m n stay = refl
leaving_stays Leaves m n stay = absurd stay

-- ---- what all parts together hold

-- by what comes and goes, the value that is given last, and the one that comes
abbrev pub content_by : Effect → Option Value → Value → Content Value
content_by Goes o v = Removes
content_by Comes o v = Begins (or_else o v)
content_by Stays None v = Nothing
content_by Stays (Some w) v = Gives w

-- the value of one part, and of the last that has one
abbrev pub part_value : ContextId → Field → DownPart → Option Value
part_value x fld (downs.Commit y t) = value_for x fld y t
part_value x fld _ = None

abbrev pub parts_value : ContextId → Field → List DownPart → Option Value
parts_value x fld [] = None
parts_value x fld (d ∷ ds) = or_later (parts_value x fld ds) (part_value x fld d)

pub later_none : {A : Type 0} (o : Option A) → or_later o None ≡ o
later_none None = refl
later_none (Some a) = refl

later_joined : {A : Type 0} (a b c : Option A) → or_later (or_later a b) c ≡ or_later a (or_later b c)
later_joined None b c = refl
later_joined (Some x) b c = refl

-- what comes has this value
abbrev pub ComesWith : ContextId → Field → Value → Known → Type 0
ComesWith x fld v k = same_context x k.context ≡ true → value_in k.fields fld ≡ v

given_by : (o p : Option Value) (e : Effect) (v : Value) → (e ≡ Comes → ⊥) → given o (content_by e p v) ≡ content_by e (or_later p o) v
given_by None p Goes v other = refl
given_by (Some w) p Goes v other = refl
given_by o p Comes v other = absurd (other refl)
given_by None None Stays v other = refl
given_by None (Some u) Stays v other = refl
given_by (Some w) None Stays v other = refl
given_by (Some w) (Some u) Stays v other = refl

begun_by : (o : Option Value) (e : Effect) (v w : Value) → w ≡ v → begun w (content_by e o v) ≡ content_by (both Comes e) o v
begun_by o Goes v w is = refl
begun_by o Comes v w is = refl
begun_by None Stays v w is = ap (λ u. Begins u) is
begun_by (Some u) Stays v w is = refl

none_comes : (x : ContextId) (ln : List ContextId) (parts : List DownPart) → come_all parts ≡ [] → parts_tell x ln parts ≡ Comes → ⊥
none_comes x ln [] none e = absurd cc
none_comes x ln (downs.Create k ∷ parts) none e = absurd cc
none_comes x ln (downs.Discard w ∷ parts) none e = by_line (is_among w ln) (none_comes x ln parts none) e
  where
    by_line : (b : Bool) → (parts_tell x ln parts ≡ Comes → ⊥) → both (goes_if b) (parts_tell x ln parts) ≡ Comes → ⊥
    by_line true rest e = absurd cc
    by_line false rest e = rest e
none_comes x ln (downs.Commit y t ∷ parts) none e = none_comes x ln parts none e
none_comes x ln (downs.Register g ks ∷ parts) none e = none_comes x ln parts none e
none_comes x ln (downs.CloseWindow y ∷ parts) none e = none_comes x ln parts none e
none_comes x ln (downs.Load y url ∷ parts) none e = none_comes x ln parts none e
none_comes x ln (downs.Ask q w actor text ∷ parts) none e = none_comes x ln parts none e
none_comes x ln (downs.Tell w actor text ∷ parts) none e = none_comes x ln parts none e
none_comes x ln (downs.Reply q outcome ∷ parts) none e = none_comes x ln parts none e
none_comes x ln (downs.Kill ∷ parts) none e = none_comes x ln parts none e

pub content_with : (x : ContextId) (ln : List ContextId) (fld : Field) (v : Value) (parts : List DownPart) → ComeFirst parts → AllByRecursion (ComesWith x fld v) (come_all parts)
    → content_of x ln fld parts ≡ content_by (parts_tell x ln parts) (parts_value x fld parts) v
content_with x ln fld v [] first all = refl
content_with x ln fld v (downs.Create k ∷ parts) first all = by_same (same_context x k.context) refl (content_with x ln fld v parts first.1 all.1)
  where
    by_same : (b : Bool) → same_context x k.context ≡ b → content_of x ln fld parts ≡ content_by (parts_tell x ln parts) (parts_value x fld parts) v
        → (if b then begun (value_in k.fields fld) (content_of x ln fld parts) else content_of x ln fld parts) ≡ content_by (both (comes_if b) (parts_tell x ln parts)) (or_later (parts_value x fld parts) None) v
    by_same true e rest =
        ap (begun (value_in k.fields fld)) rest ∙ begun_by (parts_value x fld parts) (parts_tell x ln parts) v (value_in k.fields fld) (all.0 e)
        ∙ ap (λ o. content_by (both Comes (parts_tell x ln parts)) o v) (sym (later_none (parts_value x fld parts)))
    by_same false e rest = rest ∙ ap (λ o. content_by (parts_tell x ln parts) o v) (sym (later_none (parts_value x fld parts)))
content_with x ln fld v (downs.Commit y t ∷ parts) first all =
    ap (given (value_for x fld y t)) (content_with x ln fld v parts first.1 all)
    ∙ given_by (value_for x fld y t) (parts_value x fld parts) (parts_tell x ln parts) v (none_comes x ln parts (first.0 refl))
content_with x ln fld v (downs.Discard w ∷ parts) first all = by_line (is_among w ln) (content_with x ln fld v parts first.1 all)
  where
    by_line : (b : Bool) → content_of x ln fld parts ≡ content_by (parts_tell x ln parts) (parts_value x fld parts) v
        → (if b then Removes else content_of x ln fld parts) ≡ content_by (both (goes_if b) (parts_tell x ln parts)) (or_later (parts_value x fld parts) None) v
    by_line true rest = refl
    by_line false rest = rest ∙ ap (λ o. content_by (parts_tell x ln parts) o v) (sym (later_none (parts_value x fld parts)))
content_with x ln fld v (_ ∷ parts) first all =
    content_with x ln fld v parts first.1 all ∙ ap (λ o. content_by (parts_tell x ln parts) o v) (sym (later_none (parts_value x fld parts)))

-- what goes in the parts is removed
pub content_gone : (x : ContextId) (ln : List ContextId) (fld : Field) (parts : List DownPart) → parts_tell x ln parts ≡ Goes → content_of x ln fld parts ≡ Removes
content_gone x ln fld parts goes = by_content (content_of x ln fld parts) (content_effect x ln fld parts ∙ goes)
  where
    by_content : (c : Content Value) → effect_of c ≡ Goes → c ≡ Removes
    by_content Nothing e = absurd cc
    by_content (Gives v) e = absurd cc
    by_content (Begins v) e = absurd cc
    by_content Removes e = refl
    by_content Leaves e = absurd cc

-- ---- values don't depend on the order of the kinds

-- behind the kinds that stand behind a commit no value comes
abbrev pub ValueFirst : ContextId → Field → List DownPart → Type 0
ValueFirst x fld [] = Unit {0}
ValueFirst x fld (d ∷ ds) = (nat_lt 3 (down_rank d) ≡ true → parts_value x fld ds ≡ None) × ValueFirst x fld ds

valueless : (x : ContextId) (fld : Field) (d : DownPart) → nat_lt 3 (down_rank d) ≡ true → part_value x fld d ≡ None
valueless x fld (downs.Commit y t) e = absurd cc
valueless x fld (_) e = refl

value_put : (x : ContextId) (fld : Field) (d : DownPart) (es : List DownPart) → ValueFirst x fld es → parts_value x fld (put d es) ≡ or_later (part_value x fld d) (parts_value x fld es)
value_put x fld d [] first = sym (later_none (part_value x fld d))
value_put x fld d (e ∷ es) first = by_rank (nat_lt (down_rank d) (down_rank e)) refl (value_put x fld d es first.1)
  where
    before : (d : DownPart) → nat_lt (down_rank d) (down_rank e) ≡ true
        → or_later (or_later (parts_value x fld es) (part_value x fld e)) (part_value x fld d) ≡ or_later (part_value x fld d) (or_later (parts_value x fld es) (part_value x fld e))
    before (downs.Commit y t) later =
        let nothing : or_later (parts_value x fld es) (part_value x fld e) ≡ None = ap₂ or_later (first.0 later) (valueless x fld e later) in
        ap (λ o. or_later o (value_for x fld y t)) nothing ∙ sym (later_none (value_for x fld y t)) ∙ ap (or_later (value_for x fld y t)) (sym nothing)
    before (_) later = later_none (or_later (parts_value x fld es) (part_value x fld e))

    by_rank : (b : Bool) → nat_lt (down_rank d) (down_rank e) ≡ b → parts_value x fld (put d es) ≡ or_later (part_value x fld d) (parts_value x fld es)
        → parts_value x fld (if b then d ∷ e ∷ es else e ∷ put d es) ≡ or_later (part_value x fld d) (or_later (parts_value x fld es) (part_value x fld e))
    by_rank true is rest = before d is
    by_rank false is rest = ap (λ o. or_later o (part_value x fld e)) rest ∙ later_joined (part_value x fld d) (parts_value x fld es) (part_value x fld e)

value_first_put : (x : ContextId) (fld : Field) (d : DownPart) (es : List DownPart) → ValueFirst x fld es → ValueFirst x fld (put d es)
value_first_put x fld d [] first = ((λ later. refl), tt)
value_first_put x fld d (e ∷ es) first = by_rank (nat_lt (down_rank d) (down_rank e)) refl (value_first_put x fld d es first.1)
  where
    further : (m n : ℕ) → nat_lt 3 m ≡ true → nat_lt m n ≡ true → nat_lt 3 n ≡ true
    further m n e d = lt-ltb 3 n (omega (arith, ltb-true 3 m e, ltb-true m n d))

    by_rank : (b : Bool) → nat_lt (down_rank d) (down_rank e) ≡ b → ValueFirst x fld (put d es) → ValueFirst x fld (if b then d ∷ e ∷ es else e ∷ put d es)
    by_rank true is rest = (
      (λ later. ap₂ or_later (first.0 (further (down_rank d) (down_rank e) later is)) (valueless x fld e (further (down_rank d) (down_rank e) later is))),
      first,
    )
    by_rank false is rest = (
      (λ later. value_put x fld d es first.1 ∙ ap₂ or_later (valueless x fld d (unless_before (down_rank d) (down_rank e) later is)) (first.0 later)),
      rest,
    )
      where
        unless_before : (m n : ℕ) → nat_lt 3 n ≡ true → nat_lt m n ≡ false → nat_lt 3 m ≡ true
        unless_before m n e d = lt-ltb 3 m (omega (arith, ltb-true 3 n e, ltb-false m n d))

value_all : (x : ContextId) (fld : Field) (ds es : List DownPart) → ValueFirst x fld es → parts_value x fld (parts_with_all ds es) ≡ or_later (parts_value x fld ds) (parts_value x fld es)
unfolding parts_with_all
value_all x fld [] es first = refl
value_all x fld (d ∷ ds) es first =
    value_all x fld ds (parts_with d es) (subst (ValueFirst x fld) (sym (put_is d es)) (value_first_put x fld d es first))
    ∙ ap (or_later (parts_value x fld ds)) (ap (parts_value x fld) (put_is d es) ∙ value_put x fld d es first)
    ∙ sym (later_joined (parts_value x fld ds) (part_value x fld d) (parts_value x fld es))

pub value_ordered : (x : ContextId) (fld : Field) (ds : List DownPart) → parts_value x fld (in_order ds) ≡ parts_value x fld ds
value_ordered x fld ds = value_all x fld ds [] tt ∙ later_none (parts_value x fld ds)

pub value_append : (x : ContextId) (fld : Field) (ds es : List DownPart) → parts_value x fld (ds ++ es) ≡ or_later (parts_value x fld es) (parts_value x fld ds)
value_append x fld [] es = sym (later_none (parts_value x fld es))
value_append x fld (d ∷ ds) es = ap (λ o. or_later o (part_value x fld d)) (value_append x fld ds es) ∙ later_joined (parts_value x fld es) (parts_value x fld ds) (part_value x fld d)

-- comings have no value of their own
pub value_singles : (x : ContextId) (fld : Field) (ds : List DownPart) → parts_value x fld (singles ds) ≡ parts_value x fld ds
value_singles x fld [] = refl
value_singles x fld (downs.Register g ks ∷ ds) = without ks ∙ value_singles x fld ds ∙ sym (later_none (parts_value x fld ds))
  where
    without : (ks : List Known) → parts_value x fld (map (λ (k : Known). downs.Create k) ks ++ singles ds) ≡ parts_value x fld (singles ds)
    without [] = refl
    without (k ∷ ks) = later_none (parts_value x fld (map (λ (k : Known). downs.Create k) ks ++ singles ds)) ∙ without ks
value_singles x fld (downs.Create k ∷ ds) = ap (λ o. or_later o None) (value_singles x fld ds)
value_singles x fld (downs.Commit y t ∷ ds) = ap (λ o. or_later o (value_for x fld y t)) (value_singles x fld ds)
value_singles x fld (downs.Discard w ∷ ds) = ap (λ o. or_later o None) (value_singles x fld ds)
value_singles x fld (d ∷ ds) = ap (λ o. or_later o (part_value x fld d)) (value_singles x fld ds)

-- what is put in order holds what was posted
pub content_ordered : (x : ContextId) (ln : List ContextId) (fld : Field) (v : Value) (ds : List DownPart) → AllCome (ComesWith x fld v) ds
    → content_of x ln fld (singles (in_order ds)) ≡ content_by (parts_tell x ln (singles ds)) (parts_value x fld ds) v
content_ordered x ln fld v ds all =
    content_with x ln fld v (singles (in_order ds)) (singles_first ds) (all_come_ordered (ComesWith x fld v) ds all)
    ∙ ap₂ (λ e o. content_by e o v) (single_tells x ln ds) (value_singles x fld (in_order ds) ∙ value_ordered x fld ds)

-- and removes what goes
pub removed_ordered : (x : ContextId) (ln : List ContextId) (fld : Field) (ds : List DownPart) → parts_tell x ln (singles ds) ≡ Goes → content_of x ln fld (singles (in_order ds)) ≡ Removes
removed_ordered x ln fld ds goes = content_gone x ln fld (singles (in_order ds)) (single_tells x ln ds ∙ goes)

pub initially : (fld : Field) → value_in initial_table fld ≡ initial fld
initially fld = value_in-map initial fld

-- ---- what is said

abbrev pub value_one : ContextId → Field → Saying → Option Value
value_one x fld y = value_said x fld (y ∷ [])

pub value_said_more : (x : ContextId) (fld : Field) (y : Saying) (ys : List Saying) → value_said x fld (y ∷ ys) ≡ or_later (value_one x fld y) (value_said x fld ys)
value_said_more x fld (Wrote z t) ys = ap (λ o. or_later o (value_said x fld ys)) (sym (later_none (value_for x fld z t)))
value_said_more x fld (_) ys = refl

-- what was said of a field in an entry, as a content
abbrev pub said_content : ContextId → Field → List Making → List Saying → Content Value
said_content x fld mk ys = content_by (says_do x (line x mk) ys) (value_said x fld ys) (initial fld)
