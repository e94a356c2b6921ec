-- What an entry tells of the contexts of a group that the process wasn't told of before it: nothing, or, where it
-- subscribes the process to the group, what is live behind it.
use Rattle.std.proofs.Common.{◌≡◌, ◌⊎◌, inl, inr, ℕ, ◌<◌, ◌==◌, Bool, true, false, ◌&&◌, ◌||◌, if◌then◌else◌, Option, None, Some, List, [], ◌∷◌, ◌++◌, map, filter, refl, ap, ap₂, sym, subst, ◌∙◌, append-nil, append_assoc, cond, eqb-true, eq-eqb}
use Rattle.std.specs.List.{AllByRecursion, list_any}
use Rattle.fission_ids.specs.declared.context.ContextId.{ContextId}
use Rattle.fission_ids.specs.declared.group.GroupId.{GroupId}
use Rattle.fission_ids.specs.Ids.{same_context}
use Rattle.wire_msgs.specs.declared.config.Config.{Config}
use Rattle.wire_msgs.specs.declared.part.DownPart.{DownPart}
use Rattle.wire_msgs.specs.declared.part.DownPart.TheVariants as downs
use Rattle.wire_msgs.specs.declared.part.Known.{Known}
use Rattle.protocol.specs.FactsAfter.{facts_after}
use Rattle.protocol.specs.Hear.{frame_known}
use Rattle.protocol.specs.Order.{down_rank, parts_with, parts_with_all, in_order}
use Rattle.protocol.specs.ParentActs.{known_of, register_of, same_group}
use Rattle.protocol.specs.Questions.{Facts, option_any, is_owner, is_subscribed, is_told}
use Rattle.protocol.specs.Sayings.{Saying}
use Rattle.protocol.specs.Sayings.Saying.{Opened, Made, BornDead, Removed, Wrote, Acked, Subscribed, Counted, Sent, Ended}
use Rattle.std.specs.Prelude.{nat_lt}
use Rattle.trees.specs.Look.{Handing}
use Rattle.trees.specs.Look.Effect.{Stays}
use Rattle.trees.specs.Look.Handing.{Same}
use Rattle.trees.specs.Rules.{told_owner}
use Rattle.model.specs.Lines.{Making, makings_said, line, above_in, group_in, is_among}
use Rattle.model.specs.Parent.{asked}
use Rattle.model.specs.Trees.{comes_if, goes_if, both, later_hand, hand_if, parts_tell, parts_bring, parts_handed, registers_group}
use Rattle.model.specs.View.{singles}
use Rattle.model.proofs.Arranging.{put, put_is}
use Rattle.model.proofs.AskedMore.{asked_more}
use Rattle.model.proofs.Cases.{by_if, true_false, same_context_is, same_itself}
use Rattle.model.proofs.DownsSent.{all_more, all_ordered}
use Rattle.model.proofs.Entry.{FitsOver, IsOfOthers, PostOf, IsCommitOf, Posted, tab_known, IsNoJoin, IsOpeningIn, JoinsLast, others_posted}
use Rattle.model.proofs.Entry.Posted.{NonePosted, OnePosted}
use Rattle.model.proofs.Fitting.{SayingFits, AllFit, FactsTies}
use Rattle.model.proofs.Lining.{Lined, IsToldBy, group_step}
use Rattle.model.proofs.Living.{both_stays, root_of}
use Rattle.model.proofs.Owning.{later_same}
use Rattle.model.proofs.Posting.{tell_append, bring_append, handed_append, told_by, joined_by, same_group_in, told_behind, told_of_known, opened_group, first_told}
use Rattle.model.proofs.Preorder.{Preorder, below_of, filter_twice, filter_within, among_filtered}
use Rattle.model.proofs.Subscribing.{joins, equal_swapped}
use Rattle.model.proofs.Telling.{Saids, saids_before, facts_behind}

-- ---- parts that tell nothing of a context

pub singles_append : (ds es : List DownPart) → singles (ds ++ es) ≡ singles ds ++ singles es
singles_append [] es = refl
singles_append (downs.Register g ks ∷ ds) es =
    ap (λ xs. map (λ (k : Known). downs.Create k) ks ++ xs) (singles_append ds es) ∙ sym (append_assoc (map (λ (k : Known). downs.Create k) ks) (singles ds) (singles es))
singles_append (d ∷ ds) es = ap (λ xs. d ∷ xs) (singles_append ds es)

all_join : {X : Type 0} (P : X → Type 0) (xs ys : List X) → AllByRecursion P xs → AllByRecursion P ys → AllByRecursion P (xs ++ ys)
all_join P [] ys a b = b
all_join P (x ∷ xs) ys a b = (a.0, all_join P xs ys a.1 b)

with_last : (ds es : List DownPart) (d : DownPart) → parts_with_all (ds ++ d ∷ []) es ≡ parts_with d (parts_with_all ds es)
unfolding parts_with_all
with_last [] es d = refl
with_last (e ∷ ds) es d = with_last ds (parts_with e es) d

-- where a Register tells nothing
abbrev RegisterTells : {M : Type 0} → (List DownPart → M) → M → DownPart → Type 0
RegisterTells F unit (downs.Register g ks) = F (singles (downs.Register g ks ∷ [])) ≡ unit
RegisterTells F unit d = Unit {0}

-- of what is told part by part
module _ {M : Type 0} (F : List DownPart → M) (mul : M → M → M) (unit : M) (nil : F [] ≡ unit) (joined : (ds es : List DownPart) → F (ds ++ es) ≡ mul (F ds) (F es))
    (left : (m : M) → mul unit m ≡ m) (right : (m : M) → mul m unit ≡ m)
  where
    first_alone : (d : DownPart) (ds : List DownPart) → F (singles (d ∷ ds)) ≡ mul (F (singles (d ∷ []))) (F (singles ds))
    first_alone d ds = ap F (singles_append (d ∷ []) ds) ∙ joined (singles (d ∷ [])) (singles ds)

    -- all that tell nothing tell nothing
    pub none_told : (ds : List DownPart) → AllByRecursion (λ d. F (singles (d ∷ [])) ≡ unit) ds → F (singles ds) ≡ unit
    none_told [] all = nil
    none_told (d ∷ ds) all = first_alone d ds ∙ ap₂ mul all.0 (none_told ds all.1) ∙ left unit

    put_alone : (d : DownPart) (es : List DownPart) → AllByRecursion (λ d. F (singles (d ∷ [])) ≡ unit) es → F (singles (put d es)) ≡ F (singles (d ∷ []))
    put_alone d [] all = refl
    put_alone d (e ∷ es) all = by_rank (nat_lt (down_rank d) (down_rank e)) (put_alone d es all.1)
      where
        by_rank : (b : Bool) → F (singles (put d es)) ≡ F (singles (d ∷ [])) → F (singles (if b then d ∷ e ∷ es else e ∷ put d es)) ≡ F (singles (d ∷ []))
        by_rank true rest = first_alone d (e ∷ es) ∙ ap (mul (F (singles (d ∷ [])))) (none_told (e ∷ es) all) ∙ right (F (singles (d ∷ [])))
        by_rank false rest = first_alone e (put d es) ∙ ap₂ mul all.0 rest ∙ left (F (singles (d ∷ [])))

    pub none_ordered : (ds : List DownPart) → AllByRecursion (λ d. F (singles (d ∷ [])) ≡ unit) ds → F (singles (in_order ds)) ≡ unit
    none_ordered ds all = none_told (in_order ds) (all_ordered (λ d. F (singles (d ∷ [])) ≡ unit) ds all)

    -- and those before one that tells something leave what that tells
    pub one_ordered : (ds : List DownPart) (d : DownPart) → AllByRecursion (λ d. F (singles (d ∷ [])) ≡ unit) ds → F (singles (in_order (ds ++ d ∷ []))) ≡ F (singles (d ∷ []))
    one_ordered ds d all =
        ap (λ es. F (singles es)) (with_last ds [] d ∙ put_is d (in_order ds)) ∙ put_alone d (in_order ds) (all_ordered (λ d. F (singles (d ∷ [])) ≡ unit) ds all)

    -- where each Register tells nothing the others alone tell
    pub told_single : ((g : GroupId) (ks : List Known) → F (downs.Register g ks ∷ []) ≡ unit) → (ds : List DownPart) → AllByRecursion (RegisterTells F unit) ds → F (singles ds) ≡ F ds
    told_single plain [] all = refl
    told_single plain (downs.Register g ks ∷ ds) all =
        first_alone (downs.Register g ks) ds ∙ ap (λ m. mul m (F (singles ds))) all.0 ∙ ap (mul unit) (told_single plain ds all.1)
        ∙ sym (joined (downs.Register g ks ∷ []) ds ∙ ap (λ m. mul m (F ds)) (plain g ks))
    told_single plain (d ∷ ds) all = joined (d ∷ []) (singles ds) ∙ ap (mul (F (d ∷ []))) (told_single plain ds all.1) ∙ sym (joined (d ∷ []) ds)

    pub told_single_ordered : ((g : GroupId) (ks : List Known) → F (downs.Register g ks ∷ []) ≡ unit) → (ds : List DownPart) → AllByRecursion (RegisterTells F unit) ds
        → F (singles (in_order ds)) ≡ F (in_order ds)
    told_single_ordered plain ds all = told_single plain (in_order ds) (all_ordered (RegisterTells F unit) ds all)

-- a part tells nothing of x, as one of these lines
pub record IsQuiet (x : ContextId) (ln : List ContextId) (d : DownPart) : Type 0 where
  pub tells : parts_tell x ln (singles (d ∷ [])) ≡ Stays
  pub brings : parts_bring x (singles (d ∷ [])) ≡ []
  pub hands : parts_handed x (singles (d ∷ [])) ≡ Same

abbrev pub IsQuietRegister : ContextId → List ContextId → DownPart → Type 0
IsQuietRegister x ln (downs.Register g ks) = IsQuiet x ln (downs.Register g ks)
IsQuietRegister x ln d = Unit {0}

module _ (x : ContextId) (ln : List ContextId) where
  hands_joined : (ds es : List DownPart) → parts_handed x (ds ++ es) ≡ later_hand (parts_handed x es) (parts_handed x ds)
  hands_joined ds es = handed_append x ds es

  later_left : (m : Handing) → later_hand m Same ≡ m
  later_left m = later_same m

  pub quiet_tells : (ds : List DownPart) → AllByRecursion (IsQuiet x ln) ds → parts_tell x ln (singles (in_order ds)) ≡ Stays
  quiet_tells ds all = none_ordered (parts_tell x ln) both Stays refl (tell_append x ln) (λ m. refl) both_stays ds
      (all_more (IsQuiet x ln) (λ d. parts_tell x ln (singles (d ∷ [])) ≡ Stays) (λ d q. q.tells) ds all)

  pub quiet_brings : (ds : List DownPart) → AllByRecursion (IsQuiet x ln) ds → parts_bring x (singles (in_order ds)) ≡ []
  quiet_brings ds all = none_ordered (parts_bring x) (λ us vs. us ++ vs) [] refl (bring_append x) (λ m. refl) append-nil ds
      (all_more (IsQuiet x ln) (λ d. parts_bring x (singles (d ∷ [])) ≡ []) (λ d q. q.brings) ds all)

  pub quiet_hands : (ds : List DownPart) → AllByRecursion (IsQuiet x ln) ds → parts_handed x (singles (in_order ds)) ≡ Same
  quiet_hands ds all =
      none_ordered (parts_handed x) (λ us vs. later_hand vs us) Same refl hands_joined later_left (λ m. refl) ds
      (all_more (IsQuiet x ln) (λ d. parts_handed x (singles (d ∷ [])) ≡ Same) (λ d q. q.hands) ds all)

  pub last_tells : (ds : List DownPart) (d : DownPart) → AllByRecursion (IsQuiet x ln) ds → parts_tell x ln (singles (in_order (ds ++ d ∷ []))) ≡ parts_tell x ln (singles (d ∷ []))
  last_tells ds d all = one_ordered (parts_tell x ln) both Stays refl (tell_append x ln) (λ m. refl) both_stays ds d
      (all_more (IsQuiet x ln) (λ d. parts_tell x ln (singles (d ∷ [])) ≡ Stays) (λ d q. q.tells) ds all)

  pub last_brings : (ds : List DownPart) (d : DownPart) → AllByRecursion (IsQuiet x ln) ds → parts_bring x (singles (in_order (ds ++ d ∷ []))) ≡ parts_bring x (singles (d ∷ []))
  last_brings ds d all = one_ordered (parts_bring x) (λ us vs. us ++ vs) [] refl (bring_append x) (λ m. refl) append-nil ds d
      (all_more (IsQuiet x ln) (λ d. parts_bring x (singles (d ∷ [])) ≡ []) (λ d q. q.brings) ds all)

  pub last_hands : (ds : List DownPart) (d : DownPart) → AllByRecursion (IsQuiet x ln) ds → parts_handed x (singles (in_order (ds ++ d ∷ []))) ≡ parts_handed x (singles (d ∷ []))
  last_hands ds d all =
      one_ordered (parts_handed x) (λ us vs. later_hand vs us) Same refl hands_joined later_left (λ m. refl) ds d
      (all_more (IsQuiet x ln) (λ d. parts_handed x (singles (d ∷ [])) ≡ Same) (λ d q. q.hands) ds all)

  -- where all that registers is quiet
  tells_of : (d : DownPart) → IsQuietRegister x ln d → RegisterTells (parts_tell x ln) Stays d
  tells_of (downs.Register g ks) q = q.tells
  tells_of (_) q = tt

  brings_of : (d : DownPart) → IsQuietRegister x ln d → RegisterTells (parts_bring x) [] d
  brings_of (downs.Register g ks) q = q.brings
  brings_of (_) q = tt

  hands_of : (d : DownPart) → IsQuietRegister x ln d → RegisterTells (parts_handed x) Same d
  hands_of (downs.Register g ks) q = q.hands
  hands_of (_) q = tt

  pub single_tells : (ds : List DownPart) → AllByRecursion (IsQuietRegister x ln) ds → parts_tell x ln (singles (in_order ds)) ≡ parts_tell x ln (in_order ds)
  single_tells ds all =
      told_single_ordered (parts_tell x ln) both Stays refl (tell_append x ln) (λ m. refl) both_stays (λ g ks. refl) ds
      (all_more (IsQuietRegister x ln) (RegisterTells (parts_tell x ln) Stays) tells_of ds all)

  pub single_brings : (ds : List DownPart) → AllByRecursion (IsQuietRegister x ln) ds → parts_bring x (singles (in_order ds)) ≡ parts_bring x (in_order ds)
  single_brings ds all =
      told_single_ordered (parts_bring x) (λ us vs. us ++ vs) [] refl (bring_append x) (λ m. refl) append-nil (λ g ks. refl) ds
      (all_more (IsQuietRegister x ln) (RegisterTells (parts_bring x) []) brings_of ds all)

  pub single_hands : (ds : List DownPart) → AllByRecursion (IsQuietRegister x ln) ds → parts_handed x (singles (in_order ds)) ≡ parts_handed x (in_order ds)
  single_hands ds all =
      told_single_ordered (parts_handed x) (λ us vs. later_hand vs us) Same refl hands_joined later_left (λ m. refl) (λ g ks. refl) ds
      (all_more (IsQuietRegister x ln) (RegisterTells (parts_handed x) Same) hands_of ds all)

-- what is told of another context, and not below x
pub record IsQuietKnown (x : ContextId) (k : Known) : Type 0 where
  pub other : same_context x k.context ≡ false
  pub apart : option_any (same_context x) k.parent ≡ false

quiet_create : (x : ContextId) (ln : List ContextId) (k : Known) → IsQuietKnown x k → IsQuiet x ln (downs.Create k)
quiet_create x ln k q = record {
  tells = ap (λ b. both (comes_if b) Stays) q.other;
  brings = ap (λ (b : Bool). if b then k.context ∷ [] else []) q.apart;
  hands = ap (λ b. later_hand Same (hand_if b (told_owner k.owned))) q.other;
}

quiet_register : (x : ContextId) (ln : List ContextId) (g : GroupId) (ks : List Known) → AllByRecursion (IsQuietKnown x) ks → IsQuiet x ln (downs.Register g ks)
quiet_register x ln g [] all = record { tells = refl; brings = refl; hands = refl }
quiet_register x ln g (k ∷ ks) all =
    let rest : IsQuiet x ln (downs.Register g ks) = quiet_register x ln g ks all.1 in
    record {
      tells = ap (λ b. both (comes_if b) (parts_tell x ln (singles (downs.Register g ks ∷ [])))) all.0.other ∙ rest.tells;
      brings = ap (λ (b : Bool). if b then k.context ∷ parts_bring x (singles (downs.Register g ks ∷ [])) else parts_bring x (singles (downs.Register g ks ∷ []))) all.0.apart ∙ rest.brings;
      hands = ap₂ (λ h b. later_hand h (hand_if b (told_owner k.owned))) rest.hands all.0.other;
    }

-- ---- a Register

same_group_is : (g h : GroupId) → same_group g h ≡ true → g ≡ h
same_group_is g h e = ap numbered (eqb-true g.0 h.0 e)
  where
    numbered : ℕ → GroupId
    numbered n = record { 0 = n }

-- each that is in an order is among what is there
all_members : (P : ContextId → Type 0) (xs : List ContextId) → ((y : ContextId) → list_any (same_context y) xs ≡ true → P y) → AllByRecursion P xs
all_members P [] among = tt
all_members P (x ∷ xs) among =
    (among x (ap (λ b. b || list_any (same_context x) xs) (same_itself x)), all_members P xs (λ y e. among y (later (same_context y x) (list_any (same_context y) xs) e)))
  where
    later : (a b : Bool) → b ≡ true → (a || b) ≡ true
    later true b e = refl
    later false b e = e

module _ (c : Config) (p : ℕ) (mk : List Making) (l : Lined mk) (f : Facts) (ties : FactsTies c.tabs mk f) (order : Preorder mk f.contexts.order f.contexts.live) (g : GroupId) (x : ContextId) where
  pub all_live : AllByRecursion (λ z. f.contexts.live z ≡ true) f.contexts.order
  all_live = all_members (λ z. f.contexts.live z ≡ true) f.contexts.order (λ y e. sym (order.members y) ∙ e)

  -- of a context that isn't in the group a Register tells nothing
  quiet_one : option_any (same_group g) (group_in c.tabs mk x) ≡ false → (z : ContextId) → f.contexts.live z ≡ true → option_any (same_group g) (f.contexts.group z) ≡ true
      → IsQuietKnown x (known_of f p z)
  quiet_one out z live here = record { other = by_same (same_context x z) refl; apart = ap (option_any (same_context x)) (ties.known_above z known) ∙ by_above (above_in mk z) refl }
    where
      known : f.contexts.known z ≡ true
      known = ties.live_known z live

      group_here : option_any (same_group g) (group_in c.tabs mk z) ≡ true
      group_here = ap (option_any (same_group g)) (sym (ties.known_group z known)) ∙ here

      by_same : (b : Bool) → same_context x z ≡ b → b ≡ false
      by_same false e = refl
      by_same true e = true_false (option_any (same_group g) (group_in c.tabs mk x)) (ap (λ y. option_any (same_group g) (group_in c.tabs mk y)) (same_context_is x z e) ∙ group_here) out

      by_above : (o : Option ContextId) → above_in mk z ≡ o → option_any (same_context x) o ≡ false
      by_above None up = refl
      by_above (Some a) up = by_a (same_context x a) refl
        where
          by_a : (b : Bool) → same_context x a ≡ b → b ≡ false
          by_a false e = refl
          by_a true e = true_false (option_any (same_group g) (group_in c.tabs mk x))
              (ap (λ y. option_any (same_group g) (group_in c.tabs mk y)) (same_context_is x a e) ∙ ap (option_any (same_group g)) (sym (group_step c.tabs mk l z a up)) ∙ group_here) out

  quiet_all : option_any (same_group g) (group_in c.tabs mk x) ≡ false → (zs : List ContextId) → AllByRecursion (λ z. f.contexts.live z ≡ true) zs
      → AllByRecursion (IsQuietKnown x) (map (known_of f p) (filter (λ z. option_any (same_group g) (f.contexts.group z)) zs))
  quiet_all out [] all = tt
  quiet_all out (z ∷ zs) all = by_test (option_any (same_group g) (f.contexts.group z)) refl (quiet_all out zs all.1)
    where
      by_test : (b : Bool) → option_any (same_group g) (f.contexts.group z) ≡ b → AllByRecursion (IsQuietKnown x) (map (known_of f p) (filter (λ z. option_any (same_group g) (f.contexts.group z)) zs))
          → AllByRecursion (IsQuietKnown x) (map (known_of f p) (cond b (z ∷ filter (λ z. option_any (same_group g) (f.contexts.group z)) zs)
          (filter (λ z. option_any (same_group g) (f.contexts.group z)) zs)))
      by_test true here rest = (quiet_one out z all.0 here, rest)
      by_test false isnt rest = rest

  pub other_register : (ln : List ContextId) → option_any (same_group g) (group_in c.tabs mk x) ≡ false → IsQuiet x ln (register_of f p g)
  other_register ln out = quiet_register x ln g (map (known_of f p) (filter (λ z. option_any (same_group g) (f.contexts.group z)) f.contexts.order)) (quiet_all out f.contexts.order all_live)

  both_or : (a b : Bool) → both (comes_if a) (comes_if b) ≡ comes_if (a || b)
  both_or true true = refl
  both_or true false = refl
  both_or false b = refl

  tells_creates : (ln : List ContextId) (zs : List ContextId) → parts_tell x ln (map (λ (k : Known). downs.Create k) (map (known_of f p) zs) ++ []) ≡ comes_if (list_any (same_context x) zs)
  tells_creates ln [] = refl
  tells_creates ln (z ∷ zs) = ap (both (comes_if (same_context x z))) (tells_creates ln zs) ∙ both_or (same_context x z) (list_any (same_context x) zs)

  brings_creates : (zs : List ContextId) → parts_bring x (map (λ (k : Known). downs.Create k) (map (known_of f p) zs) ++ []) ≡ filter (λ z. option_any (same_context x) (f.contexts.above z)) zs
  brings_creates [] = refl
  brings_creates (z ∷ zs) = ap (λ ys. cond (option_any (same_context x) (f.contexts.above z)) (z ∷ ys) ys) (brings_creates zs)

  hands_creates : (zs : List ContextId) → parts_handed x (map (λ (k : Known). downs.Create k) (map (known_of f p) zs) ++ []) ≡ hand_if (list_any (same_context x) zs) (told_owner (is_owner f p x))
  hands_creates [] = refl
  hands_creates (z ∷ zs) = ap (λ h. later_hand h (hand_if (same_context x z) (told_owner (is_owner f p z)))) (hands_creates zs) ∙ by_same (same_context x z) refl
    where
      twice : (b v : Bool) → later_hand (hand_if b (told_owner v)) (told_owner v) ≡ told_owner v
      twice true true = refl
      twice true false = refl
      twice false v = refl

      by_same : (b : Bool) → same_context x z ≡ b → later_hand (hand_if (list_any (same_context x) zs) (told_owner (is_owner f p x))) (hand_if b (told_owner (is_owner f p z)))
          ≡ hand_if (b || list_any (same_context x) zs) (told_owner (is_owner f p x))
      by_same true e = ap (λ y. later_hand (hand_if (list_any (same_context x) zs) (told_owner (is_owner f p x))) (told_owner (is_owner f p y))) (sym (same_context_is x z e))
          ∙ twice (list_any (same_context x) zs) (is_owner f p x)
      by_same false e = later_same (hand_if (list_any (same_context x) zs) (told_owner (is_owner f p x)))

  -- of one that is, it tells what there is
  module _ (in_it : group_in c.tabs mk x ≡ Some g) where
    here_if_live : (list_any (same_context x) (filter (λ z. option_any (same_group g) (f.contexts.group z)) f.contexts.order)) ≡ f.contexts.live x
    here_if_live = among_filtered (λ z. option_any (same_group g) (f.contexts.group z)) x f.contexts.order ∙ ap (λ b. b && option_any (same_group g) (f.contexts.group x)) (order.members x)
        ∙ by_live (f.contexts.live x) refl
      where
        by_live : (b : Bool) → f.contexts.live x ≡ b → (b && option_any (same_group g) (f.contexts.group x)) ≡ b
        by_live false e = refl
        by_live true e = ap (option_any (same_group g)) (ties.known_group x (ties.live_known x e) ∙ in_it) ∙ eq-eqb g.0 g.0 refl

    pub register_tells : (ln : List ContextId) → parts_tell x ln (singles (register_of f p g ∷ [])) ≡ comes_if (f.contexts.live x)
    register_tells ln = tells_creates ln (filter (λ z. option_any (same_group g) (f.contexts.group z)) f.contexts.order) ∙ ap comes_if here_if_live

    pub register_hands : parts_handed x (singles (register_of f p g ∷ [])) ≡ hand_if (f.contexts.live x) (told_owner (is_owner f p x))
    register_hands = hands_creates (filter (λ z. option_any (same_group g) (f.contexts.group z)) f.contexts.order) ∙ ap (λ b. hand_if b (told_owner (is_owner f p x))) here_if_live

    pub register_brings : parts_bring x (singles (register_of f p g ∷ [])) ≡ below_of mk x f.contexts.order
    register_brings =
        brings_creates (filter (λ z. option_any (same_group g) (f.contexts.group z)) f.contexts.order)
        ∙ filter_twice (λ z. option_any (same_context x) (f.contexts.above z)) (λ z. option_any (same_group g) (f.contexts.group z)) f.contexts.order
        ∙ filter_within (λ z. option_any (same_context x) (f.contexts.above z) && option_any (same_group g) (f.contexts.group z)) (λ z. option_any (same_context x) (above_in mk z)) f.contexts.order
        (λ z among. one z (ties.live_known z (sym (order.members z) ∙ among)))
      where
        one : (z : ContextId) → f.contexts.known z ≡ true → (option_any (same_context x) (f.contexts.above z) && option_any (same_group g) (f.contexts.group z))
            ≡ option_any (same_context x) (above_in mk z)
        one z known = ap₂ (λ o n. option_any (same_context x) o && option_any (same_group g) n) (ties.known_above z known) (ties.known_group z known) ∙ by_above (above_in mk z) refl
          where
            by_above : (o : Option ContextId) → above_in mk z ≡ o → (option_any (same_context x) o && option_any (same_group g) (group_in c.tabs mk z)) ≡ option_any (same_context x) o
            by_above None up = refl
            by_above (Some a) up = by_a (same_context x a) refl
              where
                by_a : (b : Bool) → same_context x a ≡ b → (b && option_any (same_group g) (group_in c.tabs mk z)) ≡ b
                by_a false e = refl
                by_a true e = ap (option_any (same_group g)) (group_step c.tabs mk l z a up ∙ ap (group_in c.tabs mk) (sym (same_context_is x a e)) ∙ in_it) ∙ eq-eqb g.0 g.0 refl

-- what a Register tells doesn't depend on who is subscribed, or on what was sent
pub register_sent : (c : Config) (p q : ℕ) (says : List Saying) (g : GroupId) → register_of (asked c.tabs (Sent q ∷ says)) p g ≡ register_of (asked c.tabs says) p g
unfolding facts_after
register_sent c p q says g = ap (λ (f : Facts). register_of f p g) (asked_more c.tabs (Sent q) says)

pub register_joined : (c : Config) (p q : ℕ) (h : GroupId) (says : List Saying) (g : GroupId) → register_of (asked c.tabs (Subscribed q h ∷ says)) p g ≡ register_of (asked c.tabs says) p g
unfolding facts_after
register_joined c p q h says g = ap (λ (f : Facts). register_of f p g) (asked_more c.tabs (Subscribed q h) says)

-- ---- an entry

module _ (c : Config) (p : ℕ) (mk : List Making) (l : Lined mk) (old : List Saying) (ft : FactsTies c.tabs mk (asked c.tabs old)) (low : p < 16) (fit : AllFit c.tabs old)
    (ordered : (ys : List Saying) → Saids c mk l old ft ys → Preorder mk (asked c.tabs (ys ++ old)).contexts.order (asked c.tabs (ys ++ old)).contexts.live)
    (x : ContextId)
  where
    -- two of one group are told of alike
    told_alike : (says : List Saying) (a : ContextId) → group_in c.tabs mk a ≡ group_in c.tabs mk x → told_by c p mk says a ≡ told_by c p mk says x
    told_alike says a same = ap (option_any (is_subscribed (asked c.tabs says) p)) same

    -- what is sent of a saying tells nothing of a context of which the process isn't told
    quiet_of : (ys : List Saying) → Saids c mk l old ft ys → (y : Saying) → SayingFits (asked c.tabs (ys ++ old)) y → AllByRecursion (IsToldBy mk) (makings_said (y ∷ [])) → (ds : List DownPart)
        → PostOf (asked c.tabs (ys ++ old)) p y ds → told_by c p mk (ys ++ old) x ≡ false → option_any (λ g. joins p g y) (group_in c.tabs mk x) ≡ false → AllByRecursion (IsQuiet x (line x mk)) ds
    quiet_of ys s (Opened z g is_new q) fits told ds post untold out = subst (AllByRecursion (IsQuiet x (line x mk))) (sym post)
        (by_if (AllByRecursion (IsQuiet x (line x mk))) (is_subscribed (asked c.tabs (ys ++ old)) p g) (downs.Create (tab_known p z g q) ∷ []) []
        (λ is. (quiet_create x (line x mk) (tab_known p z g q) (record { other = by_same is (same_context x z) refl; apart = refl }), tt)) (λ isnt. tt))
      where
        by_same : is_subscribed (asked c.tabs (ys ++ old)) p g ≡ true → (b : Bool) → same_context x z ≡ b → b ≡ false
        by_same is false e = refl
        by_same is true e =
            true_false (told_by c p mk (ys ++ old) x)
            (ap (option_any (is_subscribed (asked c.tabs (ys ++ old)) p))
            (ap (group_in c.tabs mk) (same_context_is x z e) ∙ opened_group c p mk l old ft low fit ys s z g is_new q fits told.0) ∙ is) untold
    quiet_of ys s (Made q z a) fits told ds post untold out = subst (AllByRecursion (IsQuiet x (line x mk))) (sym post)
        (by_if (AllByRecursion (IsQuiet x (line x mk))) (is_told (asked c.tabs (ys ++ old)) p a) (downs.Create (frame_known (asked c.tabs (ys ++ old)) z a) ∷ []) []
        (λ is. (quiet_create x (line x mk) (frame_known (asked c.tabs (ys ++ old)) z a) (record { other = by_same is (same_context x z) refl; apart = by_above is (same_context x a) refl }), tt))
        (λ isnt. tt))
      where
        told_a : is_told (asked c.tabs (ys ++ old)) p a ≡ true → told_by c p mk (ys ++ old) a ≡ true
        told_a is = sym (told_of_known c p mk l old ft low fit ys s a ((facts_behind c mk l old ft ys s).live_known a fits.live)) ∙ is

        by_same : is_told (asked c.tabs (ys ++ old)) p a ≡ true → (b : Bool) → same_context x z ≡ b → b ≡ false
        by_same is false e = refl
        by_same is true e = true_false (told_by c p mk (ys ++ old) x)
            (sym (told_alike (ys ++ old) a (sym (group_step c.tabs mk l z a told.0) ∙ ap (group_in c.tabs mk) (sym (same_context_is x z e)))) ∙ told_a is) untold

        by_above : is_told (asked c.tabs (ys ++ old)) p a ≡ true → (b : Bool) → same_context x a ≡ b → b ≡ false
        by_above is false e = refl
        by_above is true e = true_false (told_by c p mk (ys ++ old) x) (sym (told_alike (ys ++ old) a (ap (group_in c.tabs mk) (sym (same_context_is x a e)))) ∙ told_a is) untold
    quiet_of ys s (Removed w but) fits told ds post untold out = subst (AllByRecursion (IsQuiet x (line x mk))) (sym post)
        (by_if (AllByRecursion (IsQuiet x (line x mk))) (is_told (asked c.tabs (ys ++ old)) p w) (downs.Discard w ∷ []) []
        (λ is. (record { tells = ap (λ b. both (goes_if b) Stays) (by_line is (is_among w (line x mk)) refl); brings = refl; hands = refl }, tt)) (λ isnt. tt))
      where
        by_line : is_told (asked c.tabs (ys ++ old)) p w ≡ true → (b : Bool) → is_among w (line x mk) ≡ b → is_among w (line x mk) ≡ false
        by_line is false e = e
        by_line is true e =
            true_false (told_by c p mk (ys ++ old) x)
            (sym (told_alike (ys ++ old) w (same_group_in c mk w x (root_of mk l w x e)))
            ∙ sym (told_of_known c p mk l old ft low fit ys s w ((facts_behind c mk l old ft ys s).live_known w fits)) ∙ is) untold
    quiet_of ys s (Wrote z t) fits told ds post untold out = by_post post
      where
        commit_only : IsCommitOf z t ds → AllByRecursion (IsQuiet x (line x mk)) ds
        commit_only (inl is) = subst (AllByRecursion (IsQuiet x (line x mk))) (sym is) (record { tells = refl; brings = refl; hands = refl }, tt)
        commit_only (inr none) = subst (AllByRecursion (IsQuiet x (line x mk))) (sym none.0) tt

        by_post : ((is_told (asked c.tabs (ys ++ old)) p z ≡ true) × IsCommitOf z t ds) ⊎ ((is_told (asked c.tabs (ys ++ old)) p z ≡ false) × (ds ≡ [])) → AllByRecursion (IsQuiet x (line x mk)) ds
        by_post (inl is) = commit_only is.1
        by_post (inr isnt) = subst (AllByRecursion (IsQuiet x (line x mk))) (sym isnt.1) tt
    quiet_of ys s (Subscribed q h) fits told ds post untold out = subst (AllByRecursion (IsQuiet x (line x mk))) (sym post)
        (by_if (AllByRecursion (IsQuiet x (line x mk))) (q == p) (register_of (asked c.tabs (ys ++ old)) p h ∷ []) []
        (λ is. (other_register c p mk l (asked c.tabs (ys ++ old)) (facts_behind c mk l old ft ys s) (ordered ys s) h x (line x mk) (by_group (group_in c.tabs mk x) is out), tt)) (λ isnt. tt))
      where
        by_group : (o : Option GroupId) → (q == p) ≡ true → option_any (λ g. q == p && same_group h g) o ≡ false → option_any (same_group h) o ≡ false
        by_group None is out = refl
        by_group (Some g) is out = sym (ap (λ b. b && same_group h g) is) ∙ out
    quiet_of ys s (BornDead q z a) fits told ds post untold out = subst (AllByRecursion (IsQuiet x (line x mk))) (sym post) tt
    quiet_of ys s (Acked q z) fits told ds post untold out = subst (AllByRecursion (IsQuiet x (line x mk))) (sym post) tt
    quiet_of ys s (Counted q) fits told ds post untold out = subst (AllByRecursion (IsQuiet x (line x mk))) (sym post) tt
    quiet_of ys s (Sent q) fits told ds post untold out = subst (AllByRecursion (IsQuiet x (line x mk))) (sym post) tt
    quiet_of ys s (Ended q cause) fits told ds post untold out = subst (AllByRecursion (IsQuiet x (line x mk))) (sym post) tt

    out_parts : (y : Saying) (ys : List Saying) → joined_by c p mk (y ∷ ys) x ≡ false → (option_any (λ g. joins p g y) (group_in c.tabs mk x) ≡ false) × (joined_by c p mk ys x ≡ false)
    out_parts y ys out = by_group (group_in c.tabs mk x) out
      where
        neither : (a b : Bool) → (a || b) ≡ false → (a ≡ false) × (b ≡ false)
        neither true b e = absurd cc
        neither false b e = (refl, e)

        by_group : (o : Option GroupId) → option_any (λ g. joins p g y || list_any (joins p g) ys) o ≡ false
            → (option_any (λ g. joins p g y) o ≡ false) × (option_any (λ g. list_any (joins p g) ys) o ≡ false)
        by_group None out = (refl, refl)
        by_group (Some g) out = neither (joins p g y) (list_any (joins p g) ys) out

    still_untold : (ys : List Saying) → FitsOver c old ys → AllByRecursion (IsOfOthers p) ys → told_by c p mk old x ≡ false → joined_by c p mk ys x ≡ false → told_by c p mk (ys ++ old) x ≡ false
    still_untold ys fits others untold out = told_behind c p mk l old ft low fit ys fits others x ∙ ap₂ (λ a b. a || b) out untold

    pub quiet_posted : (ys : List Saying) (ds : List DownPart) → Saids c mk l old ft ys → Posted c p old ys ds → told_by c p mk old x ≡ false → joined_by c p mk ys x ≡ false
        → AllByRecursion (IsQuiet x (line x mk)) ds
    quiet_posted _ _ s NonePosted untold out = tt
    quiet_posted _ _ s (OnePosted y ys before more posted other post) untold out =
        let earlier : Saids c mk l old ft ys = saids_before c mk l old ft y ys s in
        let parts : (option_any (λ g. joins p g y) (group_in c.tabs mk x) ≡ false) × (joined_by c p mk ys x ≡ false) = out_parts y ys out in
        all_join (IsQuiet x (line x mk)) before more (quiet_posted ys before earlier posted untold parts.1)
        (quiet_of ys earlier y s.fits.0 (first_told c p mk l old ft low fit y ys s.told) more post
        (still_untold ys earlier.fits (others_posted c p old ys before posted) untold parts.1) parts.0)

    -- ---- where it is told, a Register is of another group

    registers_of : (ys : List Saying) → Saids c mk l old ft ys → (y : Saying) → SayingFits (asked c.tabs (ys ++ old)) y → (ds : List DownPart)
        → PostOf (asked c.tabs (ys ++ old)) p y ds → told_by c p mk (ys ++ old) x ≡ true → AllByRecursion (IsQuietRegister x (line x mk)) ds
    registers_of ys s (Opened z g is_new q) fits ds post aware = subst (AllByRecursion (IsQuietRegister x (line x mk))) (sym post)
        (by_if (AllByRecursion (IsQuietRegister x (line x mk))) (is_subscribed (asked c.tabs (ys ++ old)) p g) (downs.Create (tab_known p z g q) ∷ []) [] (λ is. (tt, tt)) (λ isnt. tt))
    registers_of ys s (Made q z a) fits ds post aware = subst (AllByRecursion (IsQuietRegister x (line x mk))) (sym post)
        (by_if (AllByRecursion (IsQuietRegister x (line x mk))) (is_told (asked c.tabs (ys ++ old)) p a) (downs.Create (frame_known (asked c.tabs (ys ++ old)) z a) ∷ []) [] (λ is. (tt, tt))
        (λ isnt. tt))
    registers_of ys s (Removed w but) fits ds post aware = subst (AllByRecursion (IsQuietRegister x (line x mk))) (sym post)
        (by_if (AllByRecursion (IsQuietRegister x (line x mk))) (is_told (asked c.tabs (ys ++ old)) p w) (downs.Discard w ∷ []) [] (λ is. (tt, tt)) (λ isnt. tt))
    registers_of ys s (Wrote z t) fits ds post aware = by_post post
      where
        commit_only : IsCommitOf z t ds → AllByRecursion (IsQuietRegister x (line x mk)) ds
        commit_only (inl is) = subst (AllByRecursion (IsQuietRegister x (line x mk))) (sym is) (tt, tt)
        commit_only (inr none) = subst (AllByRecursion (IsQuietRegister x (line x mk))) (sym none.0) tt

        by_post : ((is_told (asked c.tabs (ys ++ old)) p z ≡ true) × IsCommitOf z t ds) ⊎ ((is_told (asked c.tabs (ys ++ old)) p z ≡ false) × (ds ≡ []))
            → AllByRecursion (IsQuietRegister x (line x mk)) ds
        by_post (inl is) = commit_only is.1
        by_post (inr isnt) = subst (AllByRecursion (IsQuietRegister x (line x mk))) (sym isnt.1) tt
    registers_of ys s (Subscribed q h) fits ds post aware = subst (AllByRecursion (IsQuietRegister x (line x mk))) (sym post)
        (by_if (AllByRecursion (IsQuietRegister x (line x mk))) (q == p) (register_of (asked c.tabs (ys ++ old)) p h ∷ []) []
        (λ is. (other_register c p mk l (asked c.tabs (ys ++ old)) (facts_behind c mk l old ft ys s) (ordered ys s) h x (line x mk) (by_group (group_in c.tabs mk x) is aware), tt)) (λ isnt. tt))
      where
        by_group : (o : Option GroupId) → (q == p) ≡ true → option_any (is_subscribed (asked c.tabs (ys ++ old)) p) o ≡ true → option_any (same_group h) o ≡ false
        by_group None is told = refl
        by_group (Some g) is told = by_same (same_group h g) refl
          where
            by_same : (b : Bool) → same_group h g ≡ b → b ≡ false
            by_same false e = refl
            by_same true e = true_false (is_subscribed (asked c.tabs (ys ++ old)) p g) told
                (ap (is_subscribed (asked c.tabs (ys ++ old)) p) (sym (same_group_is h g e)) ∙ ap (λ k. is_subscribed (asked c.tabs (ys ++ old)) k h) (sym (eqb-true q p is)) ∙ fits.new)
    registers_of ys s (BornDead q z a) fits ds post aware = subst (AllByRecursion (IsQuietRegister x (line x mk))) (sym post) tt
    registers_of ys s (Acked q z) fits ds post aware = subst (AllByRecursion (IsQuietRegister x (line x mk))) (sym post) tt
    registers_of ys s (Counted q) fits ds post aware = subst (AllByRecursion (IsQuietRegister x (line x mk))) (sym post) tt
    registers_of ys s (Sent q) fits ds post aware = subst (AllByRecursion (IsQuietRegister x (line x mk))) (sym post) tt
    registers_of ys s (Ended q cause) fits ds post aware = subst (AllByRecursion (IsQuietRegister x (line x mk))) (sym post) tt

    pub registers_posted : (ys : List Saying) (ds : List DownPart) → Saids c mk l old ft ys → Posted c p old ys ds → told_by c p mk old x ≡ true → AllByRecursion (IsQuietRegister x (line x mk)) ds
    registers_posted _ _ s NonePosted aware = tt
    registers_posted _ _ s (OnePosted y ys before more posted other post) aware =
        let earlier : Saids c mk l old ft ys = saids_before c mk l old ft y ys s in
        all_join (IsQuietRegister x (line x mk)) before more (registers_posted ys before earlier posted aware)
        (registers_of ys earlier y s.fits.0 more post
        (told_behind c p mk l old ft low fit ys earlier.fits (others_posted c p old ys before posted) x ∙ either (joined_by c p mk ys x) (told_by c p mk old x) aware))
      where
        either : (u v : Bool) → v ≡ true → (u || v) ≡ true
        either true v e = refl
        either false v e = e

    -- ---- where it is subscribed in the entry

    pub record IsRegistered (ys : List Saying) (ds : List DownPart) : Type 0 where
      pub group : GroupId
      pub before : List DownPart
      pub in_group : group_in c.tabs mk x ≡ Some group
      pub is : ds ≡ before ++ register_of (asked c.tabs (ys ++ old)) p group ∷ []
      pub quiet : AllByRecursion (IsQuiet x (line x mk)) before

    none_join : (g : GroupId) (ys : List Saying) → AllByRecursion IsNoJoin ys → list_any (joins p g) ys ≡ false
    none_join g [] all = refl
    none_join g (Subscribed q h ∷ ys) all = absurd all.0
    none_join g (_ ∷ ys) all = none_join g ys all.1

    openings_join : (g : GroupId) (ys : List Saying) → AllByRecursion (IsOpeningIn g) ys → AllByRecursion IsNoJoin ys
    openings_join g [] all = tt
    openings_join g (Opened z h is_new q ∷ ys) all = (tt, openings_join g ys all.1)
    openings_join g (_ ∷ ys) all = absurd all.0

    never_joined : (ys : List Saying) → AllByRecursion IsNoJoin ys → joined_by c p mk ys x ≡ false
    never_joined ys all = by (group_in c.tabs mk x)
      where
        by : (o : Option GroupId) → option_any (λ g. list_any (joins p g) ys) o ≡ false
        by None = refl
        by (Some g) = none_join g ys all

    -- the last that is said, but for what was sent, subscribes it
    pub registered : (ys : List Saying) (ds : List DownPart) → Saids c mk l old ft ys → JoinsLast ys → Posted c p old ys ds → told_by c p mk old x ≡ false → joined_by c p mk ys x ≡ true
        → IsRegistered ys ds
    registered _ _ s last NonePosted untold in_it = true_false (joined_by c p mk [] x) in_it (never_joined [] tt)
    registered _ _ s last (OnePosted y ys before more posted other post) untold in_it =
        by_saying y s last post in_it (λ earlier before_last joined. registered ys before earlier before_last posted untold joined)
      where
        by_plain : (y : Saying) → AllByRecursion IsNoJoin (y ∷ ys) → joined_by c p mk (y ∷ ys) x ≡ true → IsRegistered (y ∷ ys) (before ++ more)
        by_plain y all in_it = true_false (joined_by c p mk (y ∷ ys) x) in_it (never_joined (y ∷ ys) all)

        further : (q : ℕ) → more ≡ [] → IsRegistered ys before → IsRegistered (Sent q ∷ ys) (before ++ more)
        further q none r = record {
          group = r.group;
          before = r.before;
          in_group = r.in_group;
          is = ap (λ es. before ++ es) none ∙ append-nil before ∙ r.is ∙ ap (λ d. r.before ++ d ∷ []) (sym (register_sent c p q (ys ++ old) r.group));
          quiet = r.quiet;
        }

        joins_now : (q : ℕ) (h : GroupId) → Saids c mk l old ft (Subscribed q h ∷ ys) → AllByRecursion IsNoJoin ys → more ≡ (if q == p then register_of (asked c.tabs (ys ++ old)) p h ∷ [] else [])
            → joined_by c p mk (Subscribed q h ∷ ys) x ≡ true → IsRegistered (Subscribed q h ∷ ys) (before ++ more)
        joins_now q h s all post in_it = by_group (group_in c.tabs mk x) refl in_it
          where
            and_or : (a b v : Bool) → v ≡ false → ((a && b) || v) ≡ true → (a ≡ true) × (b ≡ true)
            and_or true true v out e = (refl, refl)
            and_or true false v out e = true_false v e out
            and_or false b v out e = true_false v e out

            by_group : (o : Option GroupId) → group_in c.tabs mk x ≡ o → option_any (λ g. (q == p && same_group h g) || list_any (joins p g) ys) o ≡ true
                → IsRegistered (Subscribed q h ∷ ys) (before ++ more)
            by_group None is e = absurd cc
            by_group (Some g) is e =
                let both : ((q == p) ≡ true) × (same_group h g ≡ true) = and_or (q == p) (same_group h g) (list_any (joins p g) ys) (none_join g ys all) e in
                record {
                  group = h;
                  before = before;
                  in_group = is ∙ ap Some (sym (same_group_is h g both.1));
                  is = ap (λ es. before ++ es) (post ∙ ap (λ (b : Bool). if b then register_of (asked c.tabs (ys ++ old)) p h ∷ [] else []) both.0)
                      ∙ ap (λ d. before ++ d ∷ []) (sym (register_joined c p q h (ys ++ old) h));
                  quiet = quiet_posted ys before (saids_before c mk l old ft (Subscribed q h) ys s) posted untold (never_joined ys all);
                }

        by_saying : (y : Saying) → Saids c mk l old ft (y ∷ ys) → JoinsLast (y ∷ ys) → PostOf (asked c.tabs (ys ++ old)) p y more → joined_by c p mk (y ∷ ys) x ≡ true
            → (Saids c mk l old ft ys → JoinsLast ys → joined_by c p mk ys x ≡ true → IsRegistered ys before) → IsRegistered (y ∷ ys) (before ++ more)
        by_saying (Sent q) s last post in_it rest = further q post (rest (saids_before c mk l old ft (Sent q) ys s) last in_it)
        by_saying (Subscribed q h) s last post in_it rest = joins_now q h s (openings_join h ys last) post in_it
        by_saying (Opened z g is_new q) s last post in_it rest = by_plain (Opened z g is_new q) (tt, last) in_it
        by_saying (Made q z a) s last post in_it rest = by_plain (Made q z a) (tt, last) in_it
        by_saying (BornDead q z a) s last post in_it rest = by_plain (BornDead q z a) (tt, last) in_it
        by_saying (Removed w but) s last post in_it rest = by_plain (Removed w but) (tt, last) in_it
        by_saying (Wrote z t) s last post in_it rest = by_plain (Wrote z t) (tt, last) in_it
        by_saying (Acked q z) s last post in_it rest = by_plain (Acked q z) (tt, last) in_it
        by_saying (Counted q) s last post in_it rest = by_plain (Counted q) (tt, last) in_it
        by_saying (Ended q cause) s last post in_it rest = by_plain (Ended q cause) (tt, last) in_it

-- ---- whether a Register is sent

any_put : (P : DownPart → Bool) (d : DownPart) (es : List DownPart) → list_any P (put d es) ≡ (P d || list_any P es)
any_put P d [] = refl
any_put P d (e ∷ es) = by_rank (nat_lt (down_rank d) (down_rank e)) (any_put P d es)
  where
    swap : (a b v : Bool) → (a || (b || v)) ≡ (b || (a || v))
    swap true true v = refl
    swap true false v = refl
    swap false b v = refl

    by_rank : (b : Bool) → list_any P (put d es) ≡ (P d || list_any P es) → list_any P (if b then d ∷ e ∷ es else e ∷ put d es) ≡ (P d || (P e || list_any P es))
    by_rank true rest = refl
    by_rank false rest = ap (λ b. P e || b) rest ∙ swap (P e) (P d) (list_any P es)

any_all : (P : DownPart → Bool) (ds es : List DownPart) → list_any P (parts_with_all ds es) ≡ (list_any P ds || list_any P es)
unfolding parts_with_all
any_all P [] es = refl
any_all P (d ∷ ds) es = any_all P ds (parts_with d es) ∙ ap (λ b. list_any P ds || b) (ap (list_any P) (put_is d es) ∙ any_put P d es) ∙ swap (list_any P ds) (P d) (list_any P es)
  where
    swap : (a b v : Bool) → (a || (b || v)) ≡ ((b || a) || v)
    swap true true v = refl
    swap true false v = refl
    swap false true v = refl
    swap false false v = refl

or_nothing : (b : Bool) → (b || false) ≡ b
or_nothing true = refl
or_nothing false = refl

any_ordered : (P : DownPart → Bool) (ds : List DownPart) → list_any P (in_order ds) ≡ list_any P ds
any_ordered P ds = any_all P ds [] ∙ or_nothing (list_any P ds)

any_append : (P : DownPart → Bool) (ds es : List DownPart) → list_any P (ds ++ es) ≡ (list_any P ds || list_any P es)
any_append P [] es = refl
any_append P (d ∷ ds) es = ap (λ b. P d || b) (any_append P ds es) ∙ joined (P d) (list_any P ds) (list_any P es)
  where
    joined : (a b v : Bool) → (a || (b || v)) ≡ ((a || b) || v)
    joined true b v = refl
    joined false b v = refl

-- a Register of a group is posted exactly where the process is subscribed to it
register_posted : (f : Facts) (p : ℕ) (g : GroupId) (y : Saying) (ds : List DownPart) → PostOf f p y ds → list_any (registers_group g) ds ≡ joins p g y
register_posted f p g (Opened z h is_new q) ds post = ap (list_any (registers_group g)) post ∙ by_told (is_subscribed f p h)
  where
    by_told : (b : Bool) → list_any (registers_group g) (if b then downs.Create (tab_known p z h q) ∷ [] else []) ≡ false
    by_told true = refl
    by_told false = refl
register_posted f p g (Subscribed q h) ds post = ap (list_any (registers_group g)) post ∙ by_self (q == p)
  where
    by_self : (b : Bool) → list_any (registers_group g) (if b then register_of f p h ∷ [] else []) ≡ (b && same_group h g)
    by_self true = or_nothing (same_group g h) ∙ equal_swapped g.0 h.0
    by_self false = refl
register_posted f p g (Made q z a) ds post = ap (list_any (registers_group g)) post ∙ by_told (is_told f p a)
  where
    by_told : (b : Bool) → list_any (registers_group g) (if b then downs.Create (frame_known f z a) ∷ [] else []) ≡ false
    by_told true = refl
    by_told false = refl
register_posted f p g (Removed w but) ds post = ap (list_any (registers_group g)) post ∙ by_told (is_told f p w)
  where
    by_told : (b : Bool) → list_any (registers_group g) (if b then downs.Discard w ∷ [] else []) ≡ false
    by_told true = refl
    by_told false = refl
register_posted f p g (Wrote z t) ds post = by_post post
  where
    commit_only : IsCommitOf z t ds → list_any (registers_group g) ds ≡ false
    commit_only (inl is) = ap (list_any (registers_group g)) is
    commit_only (inr none) = ap (list_any (registers_group g)) none.0

    by_post : ((is_told f p z ≡ true) × IsCommitOf z t ds) ⊎ ((is_told f p z ≡ false) × (ds ≡ [])) → list_any (registers_group g) ds ≡ false
    by_post (inl is) = commit_only is.1
    by_post (inr isnt) = ap (list_any (registers_group g)) isnt.1
register_posted f p g (BornDead q z a) ds post = ap (list_any (registers_group g)) post
register_posted f p g (Acked q z) ds post = ap (list_any (registers_group g)) post
register_posted f p g (Counted q) ds post = ap (list_any (registers_group g)) post
register_posted f p g (Sent q) ds post = ap (list_any (registers_group g)) post
register_posted f p g (Ended q cause) ds post = ap (list_any (registers_group g)) post

registers_all : (c : Config) (p : ℕ) (old : List Saying) (g : GroupId) (ys : List Saying) (ds : List DownPart) → Posted c p old ys ds → list_any (registers_group g) ds ≡ list_any (joins p g) ys
registers_all c p old g _ _ NonePosted = refl
registers_all c p old g _ _ (OnePosted y ys before more posted other post) =
    any_append (registers_group g) before more ∙ ap₂ (λ a b. a || b) (registers_all c p old g ys before posted) (register_posted (asked c.tabs (ys ++ old)) p g y more post)
    ∙ swap (list_any (joins p g) ys) (joins p g y)
  where
    swap : (a b : Bool) → (a || b) ≡ (b || a)
    swap true true = refl
    swap true false = refl
    swap false true = refl
    swap false false = refl

pub registers_ordered : (c : Config) (p : ℕ) (old : List Saying) (g : GroupId) (ys : List Saying) (ds : List DownPart) → Posted c p old ys ds
    → list_any (registers_group g) (in_order ds) ≡ list_any (joins p g) ys
registers_ordered c p old g ys ds posted = any_ordered (registers_group g) ds ∙ registers_all c p old g ys ds posted
