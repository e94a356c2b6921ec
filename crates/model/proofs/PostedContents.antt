-- What a process is sent of an entry for a field of a context: what was said in it, where the process is told of the
-- context; the parent's value, where the entry subscribes the process to the context's group; and nothing else.
use Rattle.std.proofs.Common.{◌≡◌, ◌⊎◌, inl, inr, ℕ, ◌<◌, ◌==◌, Bool, true, false, not, ◌&&◌, ◌||◌, if◌then◌else◌, Option, None, Some, is_some, List, [], ◌∷◌, ◌++◌, zero, suc, map, filter, refl, ap, ap₂, sym, subst, ◌∙◌, eqb-true, eq-eqb}
use Rattle.std.specs.Prelude.{cond, insert, unwrap_or}
use Rattle.std.specs.List.{AllByRecursion, list_any}
use Rattle.std.specs.Int.{bit_at, bit_not, w16}
use Rattle.std.specs.Option.{option_map}
use Rattle.std.specs.Prelude.{bit_and}
use Rattle.std.proofs.lemmas.Nat.{one_shl}
use Rattle.fission_ids.specs.declared.context.ContextId.{ContextId}
use Rattle.fission_ids.specs.declared.group.GroupId.{GroupId}
use Rattle.fission_ids.specs.declared.process.ProcSet.{ProcSet}
use Rattle.fission_ids.specs.Ids.{same_context}
use Rattle.fission_ids.specs.ProcSet.{has, with, without}
use Rattle.fission_ids.proofs.Members.{bit_at-without}
use Rattle.context_group.specs.Sets.{set_without}
use Rattle.context_group.proofs.SetLemmas.{has-with}
use Rattle.field_table.specs.declared.field.Field.{Field}
use Rattle.field_table.specs.declared.value.Value.{Value}
use Rattle.field_table.specs.declared.value.Value.TheVariants.{Flag}
use Rattle.field_table.specs.Field.{initial}
use Rattle.field_table.specs.Table.{value_in}
use Rattle.field_table.proofs.Tables.{value_in-map}
use Rattle.transaction.specs.Transaction.{Changes, new_value}
use Rattle.wire_msgs.specs.declared.config.Config.{Config}
use Rattle.wire_msgs.specs.declared.config.StartTab.{StartTab}
use Rattle.wire_msgs.specs.declared.part.DownPart.{DownPart}
use Rattle.wire_msgs.specs.declared.part.DownPart.TheVariants as downs
use Rattle.wire_msgs.specs.declared.part.Known.{Known}
use Rattle.protocol.specs.Fold.{or_later}
use Rattle.protocol.specs.Hear.{frame_known}
use Rattle.protocol.specs.Order.{in_order}
use Rattle.protocol.specs.ParentActs.{known_of, register_of, same_group}
use Rattle.protocol.specs.Questions.{Facts, option_any, is_subscribed, is_told}
use Rattle.protocol.specs.Sayings.{Saying}
use Rattle.protocol.specs.Sayings.Saying.{Opened, Made, BornDead, Removed, Wrote, Acked, Subscribed, Counted, Sent, Ended}
use Rattle.protocol.specs.Start.{tab_of, group_of}
use Rattle.protocol.proofs.Notes.{unmodified}
use Rattle.traces.specs.Field.{Content}
use Rattle.traces.specs.Field.Content.{Nothing, Begins, Removes}
use Rattle.traces.specs.Words.{or_else}
use Rattle.trees.specs.Look.{Effect}
use Rattle.trees.specs.Look.Effect.{Stays, Comes, Goes}
use Rattle.model.specs.Lines.{Making, line, opened_in, group_in, is_among}
use Rattle.model.specs.Parent.{asked, known, group, live, order, subscribers, under, value}
use Rattle.model.specs.Trees.{comes_if, goes_if, both, says_do, parts_tell}
use Rattle.model.specs.View.{value_for, value_said, singles, content_of}
use Rattle.model.proofs.Arranging.{come_all}
use Rattle.model.proofs.Cases.{both_true, true_false, same_context_is, same_itself}
use Rattle.model.proofs.Contents.{ComesWith, content_by, parts_value, later_none, value_append, content_ordered, removed_ordered, initially, value_one, value_said_more, said_content}
use Rattle.model.proofs.Entry.{IsCommitOf, IsOfOthers, PostOf, Posted, tab_known}
use Rattle.model.proofs.Entry.Posted.{NonePosted, OnePosted}
use Rattle.model.proofs.FieldFacts.{unsaid, value_behind, else_later}
use Rattle.model.proofs.Fitting.{SayingFits, FactsTies}
use Rattle.model.proofs.Lining.{Lined, group_step}
use Rattle.model.proofs.Living.{both_swapped, says_one, says_more, root_of, opened_new}
use Rattle.model.proofs.Ordered.{tabs_are}
use Rattle.model.proofs.Owning.{known_all, created_known}
use Rattle.model.proofs.Posting.{tell_append}
use Rattle.model.proofs.Preorder.{among_filtered}
use Rattle.model.proofs.SinglesOrdered.{AllCome, all_come_append, singles_append}
use Rattle.model.proofs.Telling.{IsMaking, Saids, saids_before, facts_behind, making, creates_comes}
use Rattle.model.proofs.Telling.IsMaking.{AsFrame, AsTab}

-- ---- groups and the order, as the parent answers them

-- what has a group is known
pub grouped_known : (tabs : List StartTab) (x : ContextId) (g : GroupId) (says : List Saying) → group tabs x says ≡ Some g → known tabs x says ≡ true
unfolding group known
grouped_known tabs x g [] e = by_tab (tab_of tabs x) e
  where
    numbered : ℕ → GroupId
    numbered n = record { 0 = n }

    by_tab : (o : Option StartTab) → option_map (λ (tab : StartTab). numbered x.serial) o ≡ Some g → is_some o ≡ true
    by_tab None e = absurd cc
    by_tab (Some tab) e = refl
grouped_known tabs x g (Opened y h is_new p ∷ older) e = by_same (same_context x y) e (grouped_known tabs x g older)
  where
    by_same : (b : Bool) → (if b then Some h else group tabs x older) ≡ Some g → (group tabs x older ≡ Some g → known tabs x older ≡ true) → (if b then true else known tabs x older) ≡ true
    by_same true e rest = refl
    by_same false e rest = rest e
grouped_known tabs x g (Made p y a ∷ older) e = by_same (same_context x y) e (grouped_known tabs x g older)
  where
    by_same : (b : Bool) → (if b then group tabs a older else group tabs x older) ≡ Some g → (group tabs x older ≡ Some g → known tabs x older ≡ true)
        → (if b then true else known tabs x older) ≡ true
    by_same true e rest = refl
    by_same false e rest = rest e
grouped_known tabs x g (BornDead p y a ∷ older) e = by_same (same_context x y) e (grouped_known tabs x g older)
  where
    by_same : (b : Bool) → (if b then group tabs a older else group tabs x older) ≡ Some g → (group tabs x older ≡ Some g → known tabs x older ≡ true)
        → (if b then true else known tabs x older) ≡ true
    by_same true e rest = refl
    by_same false e rest = rest e
grouped_known tabs x g (_ ∷ older) e = grouped_known tabs x g older e

any_inserted : (t : ContextId → Bool) (xs : List ContextId) (n : ℕ) (y : ContextId) → list_any t (insert xs n y) ≡ (t y || list_any t xs)
any_inserted t [] zero y = refl
any_inserted t [] (suc n) y = refl
any_inserted t (z ∷ xs) zero y = refl
any_inserted t (z ∷ xs) (suc n) y = ap (λ b. t z || b) (any_inserted t xs n y) ∙ swap (t z) (t y) (list_any t xs)
  where
    swap : (a b d : Bool) → (a || (b || d)) ≡ (b || (a || d))
    swap true true d = refl
    swap true false d = refl
    swap false b d = refl

or_if : (a b d : Bool) → b ≡ d → (a || b) ≡ (if a then true else d)
or_if true b d e = refl
or_if false b d e = e

-- what stands in the order is what is live
pub ordered_live : (tabs : List StartTab) (x : ContextId) (says : List Saying) → list_any (same_context x) (order tabs says) ≡ live tabs x says
unfolding order live
ordered_live tabs x [] = tabs_are tabs x
ordered_live tabs x (Opened y g is_new p ∷ older) =
    any_inserted (same_context x) (order tabs older) _ y ∙ or_if (same_context x y) (list_any (same_context x) (order tabs older)) (live tabs x older) (ordered_live tabs x older)
ordered_live tabs x (Made p y a ∷ older) =
    any_inserted (same_context x) (order tabs older) _ y ∙ or_if (same_context x y) (list_any (same_context x) (order tabs older)) (live tabs x older) (ordered_live tabs x older)
ordered_live tabs x (Removed w but ∷ older) =
    among_filtered (λ y. not (under tabs y w older)) x (order tabs older) ∙ without (under tabs x w older) (list_any (same_context x) (order tabs older)) (ordered_live tabs x older)
  where
    without : (u a : Bool) → a ≡ live tabs x older → (a && not u) ≡ (if u then false else live tabs x older)
    without true true e = refl
    without true false e = refl
    without false true e = e
    without false false e = e
ordered_live tabs x (_ ∷ older) = ordered_live tabs x older

-- ---- who is told of a group

swapped : (m n : ℕ) → (m == n) ≡ (n == m)
swapped m n = go (m == n) refl (n == m) refl
  where
    go : (a : Bool) → (m == n) ≡ a → (b : Bool) → (n == m) ≡ b → a ≡ b
    go true e true d = refl
    go false e false d = refl
    go true e false d = let other : (n == m) ≡ true = eq-eqb n m (sym (eqb-true m n e)) in absurd cc
    go false e true d = let other : (m == n) ≡ true = eq-eqb m n (sym (eqb-true n m d)) in absurd cc

without_below : (s : ProcSet) (p q : ℕ) → p < 16 → q < 16 → has (without s p) q ≡ (not (q == p) && has s q)
without_below s p q low within = subst (λ n. (bit_at (bit_and s.0 (bit_not w16 n)) q == 1) ≡ (not (q == p) && bit_at s.0 q == 1)) (one_shl p 16 low) (bit_at-without s.0 p q low within)

left_below : (s : ProcSet) (p q : ℕ) → p < 16 → q < 16 → has (set_without p s) q ≡ (not (q == p) && has s q)
left_below s p q low within = by (has s p) refl
  where
    none : has s p ≡ false → (b : Bool) → (q == p) ≡ b → has s q ≡ (not b && has s q)
    none free true e = ap (has s) (eqb-true q p e) ∙ free
    none free false e = refl

    by : (b : Bool) → has s p ≡ b → has (if b then without s p else s) q ≡ (not (q == p) && has s q)
    by true e = without_below s p q low within
    by false e = none e (q == p) refl

-- whether a saying subscribes the process to a group
abbrev pub joins : ℕ → Option GroupId → Saying → Bool
joins p o (Subscribed q g) = (q == p) && option_any (same_group g) o
joins p o y = false

-- whether the process is told of a context, by its group
abbrev pub is_aware : Config → ℕ → List Making → ContextId → List Saying → Bool
is_aware c p mk x says = option_any (is_subscribed (asked c.tabs says) p) (group_in c.tabs mk x)

group_more : (tabs : List StartTab) (p : ℕ) (g : GroupId) (y : Saying) (says : List Saying) → p < 16 → SayingFits (asked tabs says) y → IsOfOthers p y
    → has (subscribers tabs g (y ∷ says)) p ≡ (joins p (Some g) y || has (subscribers tabs g says) p)
unfolding subscribers
group_more tabs p g (Subscribed q h) says low fits other = by_group (same_group h g)
  where
    s : ProcSet
    s = subscribers tabs g says

    with_true : (a b d : Bool) → a ≡ b → (a || d) ≡ ((b && true) || d)
    with_true true true d e = refl
    with_true false false d e = refl
    with_true true false d e = absurd cc
    with_true false true d e = absurd cc

    with_false : (b d : Bool) → d ≡ ((b && false) || d)
    with_false true d = refl
    with_false false d = refl

    by_group : (b : Bool) → has (if b then with (subscribers tabs g says) q else subscribers tabs g says) p ≡ (((q == p) && b) || has (subscribers tabs g says) p)
    by_group true = has-with s q p ∙ with_true (p == q) (q == p) (has s p) (swapped p q)
    by_group false = with_false (q == p) (has s p)
group_more tabs p g (Ended q cause) says low fits other =
    left_below (subscribers tabs g says) q p fits low ∙ ap (λ b. not b && has (subscribers tabs g says) p) (swapped p q ∙ other)
group_more tabs p g (_) says low fits other = refl

pub aware_more : (c : Config) (p : ℕ) (mk : List Making) (x : ContextId) (y : Saying) (says : List Saying) → p < 16 → SayingFits (asked c.tabs says) y → IsOfOthers p y
    → is_aware c p mk x (y ∷ says) ≡ (joins p (group_in c.tabs mk x) y || is_aware c p mk x says)
aware_more c p mk x y says low fits other = by_group (group_in c.tabs mk x)
  where
    none : (y : Saying) → false ≡ (joins p None y || false)
    none (Subscribed q g) = by_test (q == p)
      where
        by_test : (b : Bool) → false ≡ ((b && false) || false)
        by_test true = refl
        by_test false = refl
    none (_) = refl

    by_group : (o : Option GroupId) → option_any (is_subscribed (asked c.tabs (y ∷ says)) p) o ≡ (joins p o y || option_any (is_subscribed (asked c.tabs says) p) o)
    by_group None = none y
    by_group (Some g) = group_more c.tabs p g y says low fits other

-- who is told isn't subscribed again
aware_joins : (c : Config) (p : ℕ) (mk : List Making) (x : ContextId) (y : Saying) (says : List Saying) → SayingFits (asked c.tabs says) y → is_aware c p mk x says ≡ true
    → joins p (group_in c.tabs mk x) y ≡ false
aware_joins c p mk x (Subscribed q g) says fits aware = by_test (q == p) refl (group_in c.tabs mk x) aware
  where
    same_is : (h : GroupId) → same_group g h ≡ true → g ≡ h
    same_is h e = ap numbered (eqb-true g.0 h.0 e)
      where
        numbered : ℕ → GroupId
        numbered n = record { 0 = n }

    by_group : (h : GroupId) → (b : Bool) → same_group g h ≡ b → q ≡ p → is_subscribed (asked c.tabs says) p h ≡ true → b ≡ false
    by_group h false e same told = refl
    by_group h true e same told = true_false (is_subscribed (asked c.tabs says) q g) (ap₂ (is_subscribed (asked c.tabs says)) same (same_is h e) ∙ told) fits.new

    by_test : (b : Bool) → (q == p) ≡ b → (o : Option GroupId) → option_any (is_subscribed (asked c.tabs says) p) o ≡ true → (b && option_any (same_group g) o) ≡ false
    by_test false e o told = refl
    by_test true e None told = refl
    by_test true e (Some h) told = by_group h (same_group g h) refl (eqb-true q p e) told
aware_joins c p mk x (_) says fits aware = refl

-- ---- what a Register holds of a context

-- whether the context stands in a list, as one of the group
abbrev any_in : Facts → GroupId → ContextId → List ContextId → Bool
any_in f g x zs = list_any (λ z. option_any (same_group g) (f.contexts.group z) && same_context x z) zs

-- the Creates of these
abbrev creates_of : Facts → ℕ → List ContextId → List DownPart
creates_of f p zs = map (λ (k : Known). downs.Create k) (map (known_of f p) zs) ++ []

-- those of a group
abbrev in_group : Facts → GroupId → List ContextId → List ContextId
in_group f g zs = filter (λ z. option_any (same_group g) (f.contexts.group z)) zs

abbrev creates_in : Facts → ℕ → GroupId → List ContextId → List DownPart
creates_in f p g zs = creates_of f p (in_group f g zs)

both_if : (a b : Bool) → both (comes_if a) (comes_if b) ≡ comes_if (a || b)
both_if true true = refl
both_if true false = refl
both_if false b = refl

creates_tell : (f : Facts) (p : ℕ) (g : GroupId) (x : ContextId) (ln : List ContextId) (zs : List ContextId) → parts_tell x ln (creates_in f p g zs) ≡ comes_if (any_in f g x zs)
creates_tell f p g x ln [] = refl
creates_tell f p g x ln (z ∷ zs) = by_test (option_any (same_group g) (f.contexts.group z)) (creates_tell f p g x ln zs)
  where
    by_test : (b : Bool) → parts_tell x ln (creates_in f p g zs) ≡ comes_if (any_in f g x zs)
        → parts_tell x ln (creates_of f p (cond b (z ∷ in_group f g zs) (in_group f g zs)))
        ≡ comes_if ((b && same_context x z) || any_in f g x zs)
    by_test true rest = ap (both (comes_if (same_context x z))) rest ∙ both_if (same_context x z) (any_in f g x zs)
    by_test false rest = rest

creates_come : (f : Facts) (p : ℕ) (g : GroupId) (x : ContextId) (fld : Field) (v : Value) (zs : List ContextId) → (any_in f g x zs ≡ true → unwrap_or (f.contexts.value x fld) (Flag false) ≡ v)
    → AllByRecursion (ComesWith x fld v) (come_all (creates_in f p g zs))
creates_come f p g x fld v [] is = tt
creates_come f p g x fld v (z ∷ zs) is = by_test (option_any (same_group g) (f.contexts.group z)) is (creates_come f p g x fld v zs)
  where
    value_of : same_context x z ≡ true → value_in (known_of f p z).fields fld ≡ unwrap_or (f.contexts.value x fld) (Flag false)
    value_of e = value_in-map (λ fld. unwrap_or (f.contexts.value z fld) (Flag false)) fld ∙ ap (λ y. unwrap_or (f.contexts.value y fld) (Flag false)) (sym (same_context_is x z e))

    or_right : (a b : Bool) → b ≡ true → (a || b) ≡ true
    or_right true b e = refl
    or_right false b e = e

    by_test : (b : Bool) → (((b && same_context x z) || any_in f g x zs) ≡ true → unwrap_or (f.contexts.value x fld) (Flag false) ≡ v)
        → ((any_in f g x zs ≡ true → unwrap_or (f.contexts.value x fld) (Flag false) ≡ v) → AllByRecursion (ComesWith x fld v) (come_all (creates_in f p g zs)))
        → AllByRecursion (ComesWith x fld v) (come_all (creates_of f p (cond b (z ∷ in_group f g zs) (in_group f g zs))))
    by_test true is rest = ((λ e. value_of e ∙ is (ap (λ b. b || any_in f g x zs) e)), rest (λ among. is (or_right (same_context x z) (any_in f g x zs) among)))
    by_test false is rest = rest is

any_is : (f : Facts) (g : GroupId) (x : ContextId) (zs : List ContextId) → any_in f g x zs ≡ (option_any (same_group g) (f.contexts.group x) && list_any (same_context x) zs)
any_is f g x [] = nothing (option_any (same_group g) (f.contexts.group x))
  where
    nothing : (a : Bool) → false ≡ (a && false)
    nothing true = refl
    nothing false = refl
any_is f g x (z ∷ zs) = by_same (same_context x z) refl (any_is f g x zs)
  where
    here : (a b : Bool) → ((a && true) || (a && b)) ≡ (a && (true || b))
    here true b = refl
    here false b = refl

    there : (a b : Bool) → ((a && false) || b) ≡ b
    there true b = refl
    there false b = refl

    by_same : (b : Bool) → same_context x z ≡ b → any_in f g x zs ≡ (option_any (same_group g) (f.contexts.group x) && list_any (same_context x) zs)
        → ((option_any (same_group g) (f.contexts.group z) && same_context x z) || any_in f g x zs)
        ≡ (option_any (same_group g) (f.contexts.group x) && (same_context x z || list_any (same_context x) zs))
    by_same true e rest =
        ap₂ (λ a b. a || b) (ap₂ (λ a b. a && b) (ap (λ y. option_any (same_group g) (f.contexts.group y)) (sym (same_context_is x z e))) e) rest
        ∙ here (option_any (same_group g) (f.contexts.group x)) (list_any (same_context x) zs)
        ∙ ap (λ b. option_any (same_group g) (f.contexts.group x) && (b || list_any (same_context x) zs)) (sym e)
    by_same false e rest =
        ap (λ b. (option_any (same_group g) (f.contexts.group z) && b) || any_in f g x zs) e ∙ there (option_any (same_group g) (f.contexts.group z)) (any_in f g x zs)
        ∙ rest ∙ ap (λ b. option_any (same_group g) (f.contexts.group x) && (b || list_any (same_context x) zs)) (sym e)

-- ---- what one saying is posted as

module _ (c : Config) (p : ℕ) (mk : List Making) (l : Lined mk) (old : List Saying) (ft : FactsTies c.tabs mk (asked c.tabs old)) (low : p < 16) (x : ContextId) (fld : Field) where
  -- nothing of the context
  pub record Unposted (ds : List DownPart) : Type 0 where
    pub stays : parts_tell x (line x mk) (singles ds) ≡ Stays
    pub unvalued : parts_value x fld ds ≡ None
    pub comes : (v : Value) → AllCome (ComesWith x fld v) ds

  -- what is said, if the process is told
  pub record PostedOne (aware : Bool) (y : Saying) (ds : List DownPart) : Type 0 where
    pub tells : parts_tell x (line x mk) (singles ds) ≡ (if aware then says_one mk x y else Stays)
    pub valued : parts_value x fld ds ≡ (if aware then value_one x fld y else None)
    pub comes : (v : Value) → (aware ≡ true → says_one mk x y ≡ Comes → v ≡ initial fld) → AllCome (ComesWith x fld v) ds

  -- by a saying that does nothing of it
  nothing_of : (b : Bool) (y : Saying) (ds : List DownPart) → says_one mk x y ≡ Stays → value_one x fld y ≡ None → Unposted ds → PostedOne b y ds
  nothing_of b y ds does none u = record { tells = u.stays ∙ stay b; valued = u.unvalued ∙ unsaid_by b; comes = λ v is. u.comes v }
    where
      stay : (b : Bool) → Stays ≡ (if b then says_one mk x y else Stays)
      stay true = sym does
      stay false = refl

      unsaid_by : (b : Bool) → None ≡ (if b then value_one x fld y else None)
      unsaid_by true = sym none
      unsaid_by false = refl

  none_posted : Unposted []
  none_posted = record { stays = refl; unvalued = refl; comes = λ v. tt }

  both_false : {A : Type 0} → true ≡ false → A
  both_false e = absurd cc

  both_true_now : {A : Type 0} → false ≡ true → A
  both_true_now e = absurd cc

  create_one : (y : Saying) (k : Known) (v b : Bool) → (same_context x k.context ≡ true → v ≡ b) → says_one mk x y ≡ both (comes_if (same_context x k.context)) Stays → value_one x fld y ≡ None
      → value_in k.fields fld ≡ initial fld → PostedOne b y (if v then downs.Create k ∷ [] else [])
  create_one y k v b agree does none new = by_same (same_context x k.context) refl v b agree
    where
      by_same : (u : Bool) → same_context x k.context ≡ u → (v b : Bool) → (u ≡ true → v ≡ b) → PostedOne b y (if v then downs.Create k ∷ [] else [])
      by_same true e true true a = record {
        tells = sym does;
        valued = sym none;
        comes = λ w is. ((λ same. new ∙ sym (is refl (does ∙ ap (λ u. both (comes_if u) Stays) e))), tt);
      }
      by_same true e false false a = record { tells = refl; valued = refl; comes = λ w is. tt }
      by_same true e true false a = both_false (a refl)
      by_same true e false true a = both_true_now (a refl)
      by_same false e true b a = nothing_of b y (downs.Create k ∷ []) (does ∙ ap (λ u. both (comes_if u) Stays) e) none
          (record { stays = ap (λ u. both (comes_if u) Stays) e; unvalued = refl; comes = λ w. ((λ same. true_false (same_context x k.context) same e), tt) })
      by_same false e false b a = nothing_of b y [] (does ∙ ap (λ u. both (comes_if u) Stays) e) none none_posted

  discard_one : (w : ContextId) (but : Option ℕ) (v b : Bool) → (is_among w (line x mk) ≡ true → v ≡ b) → PostedOne b (Removed w but) (if v then downs.Discard w ∷ [] else [])
  discard_one w but v b agree = by_line (is_among w (line x mk)) refl v b agree
    where
      by_line : (u : Bool) → is_among w (line x mk) ≡ u → (v b : Bool) → (u ≡ true → v ≡ b) → PostedOne b (Removed w but) (if v then downs.Discard w ∷ [] else [])
      by_line true e true true a = record { tells = refl; valued = refl; comes = λ w is. tt }
      by_line true e false false a = record { tells = refl; valued = refl; comes = λ w is. tt }
      by_line true e true false a = both_false (a refl)
      by_line true e false true a = both_true_now (a refl)
      by_line false e true b a = nothing_of b (Removed w but) (downs.Discard w ∷ []) (ap (λ u. both (goes_if u) Stays) e) refl
          (record { stays = ap (λ u. both (goes_if u) Stays) e; unvalued = refl; comes = λ w. tt })
      by_line false e false b a = nothing_of b (Removed w but) [] (ap (λ u. both (goes_if u) Stays) e) refl none_posted

  commit_one : (z : ContextId) (t : Changes) (ds : List DownPart) (v b : Bool) → (same_context x z ≡ true → v ≡ b) → ((v ≡ true) × IsCommitOf z t ds) ⊎ ((v ≡ false) × (ds ≡ []))
      → PostedOne b (Wrote z t) ds
  commit_one z t ds v b agree post = record { tells = still b; valued = valued_by (same_context x z) refl v b agree post; comes = λ w is. comes_by w post }
    where
      still : (b : Bool) → parts_tell x (line x mk) (singles ds) ≡ (if b then Stays else Stays)
      still b = stays_by post ∙ either b
        where
          either : (b : Bool) → Stays ≡ (if b then Stays else Stays)
          either true = refl
          either false = refl

          stays_by : ((v ≡ true) × IsCommitOf z t ds) ⊎ ((v ≡ false) × (ds ≡ [])) → parts_tell x (line x mk) (singles ds) ≡ Stays
          stays_by (inl (is, inl one)) = ap (λ es. parts_tell x (line x mk) (singles es)) one
          stays_by (inl (is, inr (none, plain))) = ap (λ es. parts_tell x (line x mk) (singles es)) none
          stays_by (inr (isnt, none)) = ap (λ es. parts_tell x (line x mk) (singles es)) none

      comes_by : (w : Value) → ((v ≡ true) × IsCommitOf z t ds) ⊎ ((v ≡ false) × (ds ≡ [])) → AllCome (ComesWith x fld w) ds
      comes_by w (inl (is, inl one)) = subst (AllCome (ComesWith x fld w)) (sym one) tt
      comes_by w (inl (is, inr (none, plain))) = subst (AllCome (ComesWith x fld w)) (sym none) tt
      comes_by w (inr (isnt, none)) = subst (AllCome (ComesWith x fld w)) (sym none) tt

      none_of : (u : Bool) → list_any is_some t ≡ false → None ≡ (if u then new_value t fld else None)
      none_of true e = sym (unmodified t fld e)
      none_of false e = refl

      commit_only : IsCommitOf z t ds → parts_value x fld ds ≡ or_later (value_for x fld z t) None
      commit_only (inl is) = ap (parts_value x fld) is ∙ sym (later_none (value_for x fld z t))
      commit_only (inr none) = ap (parts_value x fld) none.0 ∙ none_of (same_context x z) none.1 ∙ sym (later_none (value_for x fld z t))

      elsewhere : same_context x z ≡ false → or_later (value_for x fld z t) None ≡ None
      elsewhere e = ap (λ (u : Bool). or_later (if u then new_value t fld else None) None) e

      valued_by : (u : Bool) → same_context x z ≡ u → (v b : Bool) → (u ≡ true → v ≡ b) → ((v ≡ true) × IsCommitOf z t ds) ⊎ ((v ≡ false) × (ds ≡ []))
          → parts_value x fld ds ≡ (if b then or_later (value_for x fld z t) None else None)
      valued_by u e v true a (inl told) = commit_only told.1
      valued_by u e v false a (inr none) = ap (parts_value x fld) none.1
      valued_by true e v true a (inr none) = both_true_now (sym none.0 ∙ a refl)
      valued_by true e v false a (inl told) = both_false (sym told.0 ∙ a refl)
      valued_by false e v true a (inr none) = ap (parts_value x fld) none.1 ∙ sym (elsewhere e)
      valued_by false e v false a (inl told) = commit_only told.1 ∙ elsewhere e

  module _ (ys : List Saying) (s : Saids c mk l old ft ys) where
    abbrev f : Facts
    f = asked c.tabs (ys ++ old)

    -- what is in its group is told of as it is
    told_same : (a : ContextId) → (asked c.tabs (ys ++ old)).contexts.known a ≡ true → group_in c.tabs mk a ≡ group_in c.tabs mk x → is_told (asked c.tabs (ys ++ old)) p a
        ≡ is_aware c p mk x (ys ++ old)
    told_same a known same = ap (option_any (is_subscribed f p)) ((facts_behind c mk l old ft ys s).known_group a known ∙ same)

    -- in a Register it stands if it is live, and of the group
    register_holds : (g : GroupId) → any_in (asked c.tabs (ys ++ old)) g x (asked c.tabs (ys ++ old)).contexts.order
        ≡ (option_any (same_group g) ((asked c.tabs (ys ++ old)).contexts.group x) && (asked c.tabs (ys ++ old)).contexts.live x)
    register_holds g = any_is f g x f.contexts.order ∙ ap (λ b. option_any (same_group g) (f.contexts.group x) && b) (ordered_live c.tabs x (ys ++ old))

    register_none : (g : GroupId) → any_in (asked c.tabs (ys ++ old)) g x (asked c.tabs (ys ++ old)).contexts.order ≡ false → Unposted (register_of (asked c.tabs (ys ++ old)) p g ∷ [])
    register_none g none = record {
      stays = creates_tell f p g x (line x mk) f.contexts.order ∙ ap comes_if none;
      unvalued = refl;
      comes = λ v. creates_come f p g x fld v f.contexts.order (λ among. true_false (any_in f g x f.contexts.order) among none);
    }

    -- and not in that of another group
    other_group : (g : GroupId) → option_any (same_group g) (group_in c.tabs mk x) ≡ false → any_in (asked c.tabs (ys ++ old)) g x (asked c.tabs (ys ++ old)).contexts.order ≡ false
    other_group g other = register_holds g ∙ by_group (f.contexts.group x) refl
      where
        by_group : (o : Option GroupId) → (asked c.tabs (ys ++ old)).contexts.group x ≡ o
            → (option_any (same_group g) ((asked c.tabs (ys ++ old)).contexts.group x) && (asked c.tabs (ys ++ old)).contexts.live x) ≡ false
        by_group None e = ap (λ o. option_any (same_group g) o && f.contexts.live x) e
        by_group (Some h) e =
            let is : f.contexts.group x ≡ group_in c.tabs mk x = (facts_behind c mk l old ft ys s).known_group x (grouped_known c.tabs x h (ys ++ old) e) in
            ap (λ o. option_any (same_group g) o && f.contexts.live x) is ∙ ap (λ b. b && f.contexts.live x) other

  -- a tab's context is in its group
  opened_group : (z : ContextId) (g : GroupId) (is_new : Bool) (q : ℕ) (ys : List Saying) → Saids c mk l old ft (Opened z g is_new q ∷ ys) → group_in c.tabs mk z ≡ Some g
  unfolding known group
  opened_group z g is_new q ys s =
      sym ((facts_behind c mk l old ft (Opened z g is_new q ∷ ys) s).known_group z (ap (λ (b : Bool). if b then true else known c.tabs z (ys ++ old)) (same_itself z)))
      ∙ ap (λ (b : Bool). if b then Some g else group c.tabs z (ys ++ old)) (same_itself z)

  pub posted_one : (y : Saying) (ys : List Saying) → Saids c mk l old ft (y ∷ ys) → joins p (group_in c.tabs mk x) y ≡ false → (ds : List DownPart) → PostOf (asked c.tabs (ys ++ old)) p y ds
      → PostedOne (is_aware c p mk x (ys ++ old)) y ds
  posted_one y ys s outside ds post = by_saying y s outside post
    where
      b : Bool
      b = is_aware c p mk x (ys ++ old)

      by_saying : (y : Saying) → Saids c mk l old ft (y ∷ ys) → joins p (group_in c.tabs mk x) y ≡ false → PostOf (asked c.tabs (ys ++ old)) p y ds → PostedOne (is_aware c p mk x (ys ++ old)) y ds
      by_saying (Opened z g is_new q) s outside post = subst (PostedOne b (Opened z g is_new q)) (sym post)
          (create_one (Opened z g is_new q) (tab_known p z g q) (is_subscribed (asked c.tabs (ys ++ old)) p g) b
          (λ e. ap (option_any (is_subscribed (asked c.tabs (ys ++ old)) p)) (sym (opened_group z g is_new q ys s) ∙ ap (group_in c.tabs mk) (sym (same_context_is x z e)))) refl refl (initially fld))
      by_saying (Made q z a) s outside post = subst (PostedOne b (Made q z a)) (sym post)
          (create_one (Made q z a) (frame_known (asked c.tabs (ys ++ old)) z a) (is_told (asked c.tabs (ys ++ old)) p a) b
          (λ e. told_same ys (saids_before c mk l old ft (Made q z a) ys s) a ((facts_behind c mk l old ft ys (saids_before c mk l old ft (Made q z a) ys s)).live_known a s.fits.0.live)
          (sym (group_step c.tabs mk l z a s.told.0) ∙ ap (group_in c.tabs mk) (sym (same_context_is x z e)))) refl refl (initially fld))
      by_saying (BornDead q z a) s outside post = nothing_of b (BornDead q z a) ds refl refl (subst Unposted (sym post) none_posted)
      by_saying (Removed w but) s outside post = subst (PostedOne b (Removed w but)) (sym post)
          (discard_one w but (is_told (asked c.tabs (ys ++ old)) p w) b
          (λ e. told_same ys (saids_before c mk l old ft (Removed w but) ys s) w ((facts_behind c mk l old ft ys (saids_before c mk l old ft (Removed w but) ys s)).live_known w s.fits.0)
          (ap (λ r. or_later (group_of c.tabs r) (opened_in mk r)) (root_of mk l w x e))))
      by_saying (Wrote z t) s outside post = commit_one z t ds (is_told (asked c.tabs (ys ++ old)) p z) b
          (λ e. told_same ys (saids_before c mk l old ft (Wrote z t) ys s) z ((facts_behind c mk l old ft ys (saids_before c mk l old ft (Wrote z t) ys s)).live_known z s.fits.0)
          (ap (group_in c.tabs mk) (sym (same_context_is x z e)))) post
      by_saying (Subscribed q g) s outside post = nothing_of b (Subscribed q g) ds refl refl (subst Unposted (sym post) (by_test (q == p) outside))
        where
          by_test : (v : Bool) → (v && option_any (same_group g) (group_in c.tabs mk x)) ≡ false → Unposted (if v then register_of (asked c.tabs (ys ++ old)) p g ∷ [] else [])
          by_test true other = register_none ys (saids_before c mk l old ft (Subscribed q g) ys s) g (other_group ys (saids_before c mk l old ft (Subscribed q g) ys s) g other)
          by_test false other = none_posted
      by_saying (Acked q z) s outside post = nothing_of b (Acked q z) ds refl refl (subst Unposted (sym post) none_posted)
      by_saying (Counted q) s outside post = nothing_of b (Counted q) ds refl refl (subst Unposted (sym post) none_posted)
      by_saying (Sent q) s outside post = nothing_of b (Sent q) ds refl refl (subst Unposted (sym post) none_posted)
      by_saying (Ended q cause) s outside post = nothing_of b (Ended q cause) ds refl refl (subst Unposted (sym post) none_posted)

  -- ---- an entry, of a context that the process is told of

  -- all that was said
  pub record PostedAll (ys : List Saying) (ds : List DownPart) : Type 0 where
    pub aware : is_aware c p mk x (ys ++ old) ≡ true
    pub tells : parts_tell x (line x mk) (singles ds) ≡ says_do x (line x mk) ys
    pub valued : parts_value x fld ds ≡ value_said x fld ys
    pub comes : AllCome (ComesWith x fld (initial fld)) ds

  tells_append : (ds es : List DownPart) → parts_tell x (line x mk) (singles (ds ++ es)) ≡ both (parts_tell x (line x mk) (singles ds)) (parts_tell x (line x mk) (singles es))
  tells_append ds es = ap (parts_tell x (line x mk)) (singles_append ds es) ∙ tell_append x (line x mk) (singles ds) (singles es)

  aware_still : (y : Saying) (ys : List Saying) → SayingFits (asked c.tabs (ys ++ old)) y → IsOfOthers p y → is_aware c p mk x (ys ++ old) ≡ true → is_aware c p mk x ((y ∷ ys) ++ old) ≡ true
  aware_still y ys fits other aware =
      aware_more c p mk x y (ys ++ old) low fits other
      ∙ ap₂ (λ a b. a || b) (aware_joins c p mk x y (ys ++ old) fits aware) aware

  all_more : (y : Saying) (ys : List Saying) (before more : List DownPart) → Saids c mk l old ft (y ∷ ys) → IsOfOthers p y → PostOf (asked c.tabs (ys ++ old)) p y more → PostedAll ys before
      → PostedAll (y ∷ ys) (before ++ more)
  all_more y ys before more s other post rest = record {
    aware = aware_still y ys s.fits.0 other rest.aware;
    tells =
        tells_append before more ∙ ap₂ both rest.tells (one.tells ∙ ap (λ (b : Bool). if b then says_one mk x y else Stays) rest.aware)
        ∙ both_swapped (says_do x (line x mk) ys) (says_one mk x y) ∙ sym (says_more mk x y ys);
    valued =
        value_append x fld before more ∙ ap₂ or_later (one.valued ∙ ap (λ (b : Bool). if b then value_one x fld y else None) rest.aware) rest.valued
        ∙ sym (value_said_more x fld y ys);
    comes = all_come_append (ComesWith x fld (initial fld)) before more rest.comes (one.comes (initial fld) (λ told now. refl));
  }
    where
      one : PostedOne (is_aware c p mk x (ys ++ old)) y more
      one = posted_one y ys s (aware_joins c p mk x y (ys ++ old) s.fits.0 rest.aware) more post

  pub all_posted : is_aware c p mk x old ≡ true → (ys : List Saying) (ds : List DownPart) → Saids c mk l old ft ys → Posted c p old ys ds → PostedAll ys ds
  all_posted told _ _ s NonePosted = record { aware = told; tells = refl; valued = refl; comes = tt }
  all_posted told _ _ s (OnePosted y ys before more posted other post) = all_more y ys before more s other post (all_posted told ys before (saids_before c mk l old ft y ys s) posted)

  -- so what is sent of it holds what was said in it
  pub posted_content : is_aware c p mk x old ≡ true → (ys : List Saying) (ds : List DownPart) → Saids c mk l old ft ys → Posted c p old ys ds
      → content_of x (line x mk) fld (singles (in_order ds)) ≡ said_content x fld mk ys
  posted_content told ys ds s posted =
      let all : PostedAll ys ds = all_posted told ys ds s posted in
      content_ordered x (line x mk) fld (initial fld) ds all.comes ∙ ap₂ (λ e o. content_by e o (initial fld)) all.tells all.valued

  -- ---- an entry, of a context that the process wasn't told of

  module _ (base : Value) (was : live c.tabs x old ≡ true → value c.tabs x fld old ≡ Some base) (new_is : known c.tabs x old ≡ false → base ≡ initial fld) where
    -- it came with the parent's value
    pub record Whole (ys : List Saying) (ds : List DownPart) : Type 0 where
      pub aware : is_aware c p mk x (ys ++ old) ≡ true
      pub known : known c.tabs x (ys ++ old) ≡ true
      pub first : Value
      pub comes : AllCome (ComesWith x fld first) ds
      pub tells : parts_tell x (line x mk) (singles ds) ≡ Comes
      pub valued : or_else (parts_value x fld ds) first ≡ or_else (value_said x fld ys) base

    -- nothing of it was posted, or it isn't live; or it came; or it went
    pub data PostedLate (ys : List Saying) (ds : List DownPart) : Type 0 where
      Unaware : is_aware c p mk x (ys ++ old) ≡ false → Unposted ds → PostedLate ys ds
      Absent : is_aware c p mk x (ys ++ old) ≡ true → live c.tabs x (ys ++ old) ≡ false → Unposted ds → PostedLate ys ds
      Came : Whole ys ds → PostedLate ys ds
      Left : parts_tell x (line x mk) (singles ds) ≡ Goes → PostedLate ys ds

    unposted_more : (ds es : List DownPart) → Unposted ds → Unposted es → Unposted (ds ++ es)
    unposted_more ds es u w = record {
      stays = tells_append ds es ∙ ap₂ both u.stays w.stays;
      unvalued = value_append x fld ds es ∙ ap₂ or_later w.unvalued u.unvalued;
      comes = λ v. all_come_append (ComesWith x fld v) ds es (u.comes v) (w.comes v);
    }

    no_coming : {A : Type 0} (y : Saying) → says_one mk x y ≡ Stays → says_one mk x y ≡ Comes → A
    no_coming y e d = let two : Stays ≡ Comes = sym e ∙ d in absurd cc

    -- what isn't live isn't, unless it comes, and is not written
    dead_still : (y : Saying) (ys : List Saying) → live c.tabs x (ys ++ old) ≡ false → says_one mk x y ≡ Stays → live c.tabs x ((y ∷ ys) ++ old) ≡ false
    unfolding live
    dead_still (Opened z g is_new q) ys dead e = by_same (same_context x z) e
      where
        by_same : (b : Bool) → both (comes_if b) Stays ≡ Stays → (if b then true else live c.tabs x (ys ++ old)) ≡ false
        by_same true e = absurd cc
        by_same false e = dead
    dead_still (Made q z a) ys dead e = by_same (same_context x z) e
      where
        by_same : (b : Bool) → both (comes_if b) Stays ≡ Stays → (if b then true else live c.tabs x (ys ++ old)) ≡ false
        by_same true e = absurd cc
        by_same false e = dead
    dead_still (Removed w but) ys dead e = by_under (under c.tabs x w (ys ++ old))
      where
        by_under : (b : Bool) → (if b then false else live c.tabs x (ys ++ old)) ≡ false
        by_under true = refl
        by_under false = dead
    dead_still (_) ys dead e = dead

    dead_value : (y : Saying) (ys : List Saying) → live c.tabs x (ys ++ old) ≡ false → SayingFits (asked c.tabs (ys ++ old)) y → value_one x fld y ≡ None
    dead_value (Wrote z t) ys dead fits = by_same (same_context x z) refl
      where
        by_same : (b : Bool) → same_context x z ≡ b → or_later (if b then new_value t fld else None) None ≡ None
        by_same false e = refl
        by_same true e = true_false (live c.tabs x (ys ++ old)) (ap (λ a. live c.tabs a (ys ++ old)) (same_context_is x z e) ∙ fits) dead
    dead_value (_) ys dead fits = refl

    -- what comes is new, with no value of its own
    coming_value : (y : Saying) → says_one mk x y ≡ Comes → value_one x fld y ≡ None
    coming_value (Wrote z t) e = absurd cc
    coming_value (_) e = refl

    coming_new : (y : Saying) (ys : List Saying) → Saids c mk l old ft (y ∷ ys) → says_one mk x y ≡ Comes → known c.tabs x (ys ++ old) ≡ false
    coming_new y ys s e = by_making (making (asked c.tabs (ys ++ old)) mk x y s.fits.0 e)
      where
        by_making : IsMaking (asked c.tabs (ys ++ old)) y x → known c.tabs x (ys ++ old) ≡ false
        by_making (AsFrame maker below is fits) = fits.new
        by_making (AsTab owner fits) = opened_new c.tabs mk (asked c.tabs (ys ++ old)) x owner (facts_behind c mk l old ft ys (saids_before c mk l old ft y ys s)) fits

    new_at_first : (ys : List Saying) → known c.tabs x (ys ++ old) ≡ false → known c.tabs x old ≡ false
    new_at_first ys new = by_known (known c.tabs x old) refl
      where
        by_known : (b : Bool) → known c.tabs x old ≡ b → known c.tabs x old ≡ false
        by_known false e = e
        by_known true e = true_false (known c.tabs x (ys ++ old)) (known_all c old ys x e) new

    -- ---- a saying more

    module _ (y : Saying) (ys : List Saying) (before more : List DownPart) (s : Saids c mk l old ft (y ∷ ys)) (other : IsOfOthers p y) (post : PostOf (asked c.tabs (ys ++ old)) p y more) where
      abbrev earlier : Saids c mk l old ft ys
      earlier = saids_before c mk l old ft y ys s

      one_when : is_aware c p mk x (ys ++ old) ≡ true → PostedOne true y more
      one_when aware = subst (λ b. PostedOne b y more) aware (posted_one y ys s (aware_joins c p mk x y (ys ++ old) s.fits.0 aware) more post)

      -- it comes as it is made
      came_now : is_aware c p mk x (ys ++ old) ≡ true → Unposted before → says_one mk x y ≡ Comes → Whole (y ∷ ys) (before ++ more)
      came_now aware u comes = record {
        aware = aware_still y ys s.fits.0 other aware;
        known = created_known c old (y ∷ ys) x s.fits (creates_comes x mk y ys comes);
        first = initial fld;
        comes = all_come_append (ComesWith x fld (initial fld)) before more (u.comes (initial fld)) (one.comes (initial fld) (λ told now. refl));
        tells = tells_append before more ∙ ap₂ both u.stays (one.tells ∙ comes);
        valued =
            ap (λ o. or_else o (initial fld)) (value_append x fld before more ∙ ap₂ or_later (one.valued ∙ coming_value y comes) u.unvalued)
            ∙ sym (new_is (new_at_first ys new))
            ∙ ap (λ o. or_else o base) (sym (value_said_more x fld y ys ∙ ap₂ or_later (coming_value y comes) (unsaid c mk l old ft x fld ys earlier new)));
      }
        where
          one : PostedOne true y more
          one = one_when aware

          new : known c.tabs x (ys ++ old) ≡ false
          new = coming_new y ys s comes

      absent_more : is_aware c p mk x (ys ++ old) ≡ true → live c.tabs x (ys ++ old) ≡ false → Unposted before → PostedLate (y ∷ ys) (before ++ more)
      absent_more aware dead u = by_effect (says_one mk x y) refl
        where
          one : PostedOne true y more
          one = one_when aware

          by_effect : (e : Effect) → says_one mk x y ≡ e → PostedLate (y ∷ ys) (before ++ more)
          by_effect Stays e = Absent (aware_still y ys s.fits.0 other aware) (dead_still y ys dead e) (unposted_more before more u (record {
            stays = one.tells ∙ e;
            unvalued = one.valued ∙ dead_value y ys dead s.fits.0;
            comes = λ v. one.comes v (λ told now. no_coming y e now);
          }))
          by_effect Comes e = Came (came_now aware u e)
          by_effect Goes e = Left (tells_append before more ∙ ap₂ both u.stays (one.tells ∙ e))

      whole_more : Whole ys before → PostedLate (y ∷ ys) (before ++ more)
      whole_more w = by_effect (says_one mk x y) refl
        where
          one : PostedOne true y more
          one = one_when w.aware

          by_effect : (e : Effect) → says_one mk x y ≡ e → PostedLate (y ∷ ys) (before ++ more)
          by_effect Stays e = Came (record {
            aware = aware_still y ys s.fits.0 other w.aware;
            known = known_all c (ys ++ old) (y ∷ []) x w.known;
            first = w.first;
            comes = all_come_append (ComesWith x fld w.first) before more w.comes (one.comes w.first (λ told now. no_coming y e now));
            tells = tells_append before more ∙ ap₂ both w.tells (one.tells ∙ e);
            valued =
                ap (λ o. or_else o w.first) (value_append x fld before more ∙ ap (λ o. or_later o (parts_value x fld before)) one.valued)
                ∙ else_later (value_one x fld y) (parts_value x fld before) w.first
                ∙ ap (or_else (value_one x fld y)) w.valued
                ∙ sym (else_later (value_one x fld y) (value_said x fld ys) base)
                ∙ ap (λ o. or_else o base) (sym (value_said_more x fld y ys));
          })
          by_effect Comes e = true_false (known c.tabs x (ys ++ old)) w.known (coming_new y ys s e)
          by_effect Goes e = Left (tells_append before more ∙ ap₂ both w.tells (one.tells ∙ e))

      unaware_more : is_aware c p mk x (ys ++ old) ≡ false → Unposted before → joins p (group_in c.tabs mk x) y ≡ false → PostedLate (y ∷ ys) (before ++ more)
      unaware_more unaware u outside =
          Unaware (aware_more c p mk x y (ys ++ old) low s.fits.0 other ∙ ap₂ (λ a b. a || b) outside unaware)
          (unposted_more before more u (record {
            stays = one.tells;
            unvalued = one.valued;
            comes = λ v. one.comes v (λ told now. no_way told);
          }))
        where
          one : PostedOne false y more
          one = subst (λ b. PostedOne b y more) unaware (posted_one y ys s outside more post)

          no_way : {A : Type 0} → false ≡ true → A
          no_way e = absurd cc

    -- the process is subscribed to its group
    module _ (q : ℕ) (g : GroupId) (ys : List Saying) (before : List DownPart) (s : Saids c mk l old ft (Subscribed q g ∷ ys))
        (of_it : option_any (same_group g) (group_in c.tabs mk x) ≡ true)
        (aware : is_aware c p mk x ((Subscribed q g ∷ ys) ++ old) ≡ true) (u : Unposted before)
      where
        abbrev facts : Facts
        facts = asked c.tabs (ys ++ old)

        abbrev register : DownPart
        register = register_of (asked c.tabs (ys ++ old)) p g

        registered_live : live c.tabs x (ys ++ old) ≡ true → Whole (Subscribed q g ∷ ys) (before ++ register_of (asked c.tabs (ys ++ old)) p g ∷ [])
        registered_live on = record {
          aware = aware;
          known = known_all c (ys ++ old) (Subscribed q g ∷ []) x is_known;
          first = now;
          comes = all_come_append (ComesWith x fld now) before (register ∷ []) (u.comes now)
              (creates_come facts p g x fld now facts.contexts.order (λ among. ap (λ (o : Option Value). unwrap_or o (Flag false)) value_is));
          tells = tells_append before (register ∷ []) ∙ ap₂ both u.stays (creates_tell facts p g x (line x mk) facts.contexts.order ∙ ap comes_if stands);
          valued = ap (λ o. or_else o now) (value_append x fld before (register ∷ []) ∙ ap (or_later None) u.unvalued);
        }
          where
            earlier : Saids c mk l old ft ys
            earlier = saids_before c mk l old ft (Subscribed q g) ys s

            now : Value
            now = or_else (value_said x fld ys) base

            is_known : known c.tabs x (ys ++ old) ≡ true
            is_known = (facts_behind c mk l old ft ys earlier).live_known x on

            value_is : value c.tabs x fld (ys ++ old) ≡ Some (or_else (value_said x fld ys) base)
            value_is = value_behind c mk l old ft x fld base was new_is ys earlier on

            stands : any_in (asked c.tabs (ys ++ old)) g x (asked c.tabs (ys ++ old)).contexts.order ≡ true
            stands =
                register_holds ys earlier g
                ∙ ap₂ (λ a b. a && b) (ap (option_any (same_group g)) ((facts_behind c mk l old ft ys earlier).known_group x is_known) ∙ of_it) on

        registered_dead : live c.tabs x (ys ++ old) ≡ false → Unposted (register_of (asked c.tabs (ys ++ old)) p g ∷ [])
        registered_dead off = register_none ys earlier g (register_holds ys earlier g ∙ none (option_any (same_group g) (facts.contexts.group x)) off)
          where
            earlier : Saids c mk l old ft ys
            earlier = saids_before c mk l old ft (Subscribed q g) ys s

            none : (a : Bool) → live c.tabs x (ys ++ old) ≡ false → (a && live c.tabs x (ys ++ old)) ≡ false
            none true e = e
            none false e = refl

        still_dead : live c.tabs x (ys ++ old) ≡ false → live c.tabs x ((Subscribed q g ∷ ys) ++ old) ≡ false
        unfolding live
        still_dead off = off

        pub registered : PostedLate (Subscribed q g ∷ ys) (before ++ register_of (asked c.tabs (ys ++ old)) p g ∷ [])
        registered = by_live (live c.tabs x (ys ++ old)) refl
          where
            by_live : (b : Bool) → live c.tabs x (ys ++ old) ≡ b → PostedLate (Subscribed q g ∷ ys) (before ++ register_of (asked c.tabs (ys ++ old)) p g ∷ [])
            by_live true on = Came (registered_live on)
            by_live false off = Absent aware (still_dead off) (unposted_more before (register ∷ []) u (registered_dead off))

    late_more : (y : Saying) (ys : List Saying) (before more : List DownPart) → Saids c mk l old ft (y ∷ ys) → IsOfOthers p y → PostOf (asked c.tabs (ys ++ old)) p y more → PostedLate ys before
        → PostedLate (y ∷ ys) (before ++ more)
    late_more y ys before more s other post (Absent aware dead u) = absent_more y ys before more s other post aware dead u
    late_more y ys before more s other post (Came w) = whole_more y ys before more s other post w
    late_more y ys before more s other post (Left goes) = Left (tells_append before more ∙ ap (λ a. both a (parts_tell x (line x mk) (singles more))) goes)
    late_more y ys before more s other post (Unaware unaware u) = by_join (joins p (group_in c.tabs mk x) y) refl
      where
        by_saying : (y : Saying) → Saids c mk l old ft (y ∷ ys) → PostOf (asked c.tabs (ys ++ old)) p y more → is_aware c p mk x ((y ∷ ys) ++ old) ≡ true → joins p (group_in c.tabs mk x) y
            ≡ true → PostedLate (y ∷ ys) (before ++ more)
        by_saying (Subscribed q g) s post aware joined =
            let two : ((q == p) ≡ true) × (option_any (same_group g) (group_in c.tabs mk x) ≡ true) = both_true (q == p) (option_any (same_group g) (group_in c.tabs mk x)) joined in
            subst (λ es. PostedLate (Subscribed q g ∷ ys) (before ++ es)) (sym (post ∙ ap (λ (b : Bool). if b then register_of (asked c.tabs (ys ++ old)) p g ∷ [] else []) two.0))
            (registered q g ys before s two.1 aware u)
        by_saying (_) s post aware joined = absurd cc

        by_join : (b : Bool) → joins p (group_in c.tabs mk x) y ≡ b → PostedLate (y ∷ ys) (before ++ more)
        by_join false outside = unaware_more y ys before more s other post unaware u outside
        by_join true joined = by_saying y s post (aware_more c p mk x y (ys ++ old) low s.fits.0 other ∙ ap (λ b. b || is_aware c p mk x (ys ++ old)) joined) joined

    pub late_posted : is_aware c p mk x old ≡ false → (ys : List Saying) (ds : List DownPart) → Saids c mk l old ft ys → Posted c p old ys ds → PostedLate ys ds
    late_posted untold _ _ s NonePosted = Unaware untold none_posted
    late_posted untold _ _ s (OnePosted y ys before more posted other post) = late_more y ys before more s other post (late_posted untold ys before (saids_before c mk l old ft y ys s) posted)

    -- what is sent of it: nothing, or the parent's value of what is known, or that it's gone
    pub data LateContent (ys : List Saying) (d : Content Value) : Type 0 where
      IsNothing : d ≡ Nothing → LateContent ys d
      IsWhole : known c.tabs x (ys ++ old) ≡ true → d ≡ Begins (or_else (value_said x fld ys) base) → LateContent ys d
      IsRemoved : d ≡ Removes → LateContent ys d

    pub late_content : is_aware c p mk x old ≡ false → (ys : List Saying) (ds : List DownPart) → Saids c mk l old ft ys → Posted c p old ys ds
        → LateContent ys (content_of x (line x mk) fld (singles (in_order ds)))
    late_content untold ys ds s posted = by_late (late_posted untold ys ds s posted)
      where
        of_none : Unposted ds → content_of x (line x mk) fld (singles (in_order ds)) ≡ Nothing
        of_none u = content_ordered x (line x mk) fld base ds (u.comes base) ∙ ap₂ (λ e o. content_by e o base) u.stays u.unvalued

        by_late : PostedLate ys ds → LateContent ys (content_of x (line x mk) fld (singles (in_order ds)))
        by_late (Unaware unaware u) = IsNothing (of_none u)
        by_late (Absent aware dead u) = IsNothing (of_none u)
        by_late (Came w) = IsWhole w.known
            (content_ordered x (line x mk) fld w.first ds w.comes ∙ ap (λ e. content_by e (parts_value x fld ds) w.first) w.tells ∙ ap (λ v. Begins v) w.valued)
        by_late (Left goes) = IsRemoved (removed_ordered x (line x mk) fld ds goes)
