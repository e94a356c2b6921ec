-- What a bundle can have the other side send, told by its parts alone, and what that weighs.
use Rattle.std.proofs.Common.{◌≡◌, ℕ, ◌+◌, ◌≤◌, ◌==◌, Bool, true, false, not, ◌&&◌, ◌||◌, if◌then◌else◌, List, [], ◌∷◌, ◌++◌, Option, None, Some, refl, ap, sym, subst, ◌∙◌, arith}
use Rattle.std.specs.Prelude.{nat_lt, is_some}
use Rattle.std.specs.List.{AllByRecursion, list_any}
use Rattle.std.specs.Option.{option_map_or}
use Rattle.fission_ids.specs.declared.context.ContextId.{ContextId}
use Rattle.field_table.specs.declared.field.Field.{Field}
use Rattle.transaction.specs.Transaction.{Changes}
use Rattle.wire_msgs.specs.declared.action.ParentAction.{ParentAction}
use Rattle.wire_msgs.specs.declared.action.ParentAction.TheVariants as parents
use Rattle.wire_msgs.specs.declared.answer.Answer.TheVariants.{Ignored, Refused}
use Rattle.wire_msgs.specs.declared.bundle.DownBundle.{DownBundle}
use Rattle.wire_msgs.specs.declared.bundle.UpBundle.{UpBundle}
use Rattle.wire_msgs.specs.declared.cause.EndCause.{EndCause}
use Rattle.wire_msgs.specs.declared.cause.EndCause.TheVariants.{Failed}
use Rattle.wire_msgs.specs.declared.note.Mark.TheVariants.{Done, Late}
use Rattle.wire_msgs.specs.declared.note.PartNote.{PartNote}
use Rattle.wire_msgs.specs.declared.note.PartNote.TheVariants as notes
use Rattle.wire_msgs.specs.declared.part.DownPart.{DownPart}
use Rattle.wire_msgs.specs.declared.part.DownPart.TheVariants as downs
use Rattle.wire_msgs.specs.declared.part.UpPart.{UpPart}
use Rattle.wire_msgs.specs.declared.part.UpPart.TheVariants as ups
use Rattle.protocol.specs.Bundle.{Ruling, is_commit, is_counted, envelope_fault, end_parts, ruling, end_ruling, parts_ruling, bundle_ruling, bundle_for}
use Rattle.protocol.specs.Fold.{or_later, first_fault, after_part, posts_of}
use Rattle.protocol.specs.Hear.{hear_rules, posts, commit_unless_empty, is_other_told, values_where, changes_where, is_noted, is_reverted, is_applied}
use Rattle.protocol.specs.Order.{down_rank, parts_with, parts_with_all, in_order}
use Rattle.protocol.specs.ParentActs.{action_ruling, done_ruling, group_of_tab, context_of_tab, known_of, register_of, posts as parent_posts, refusal as parent_refusal}
use Rattle.protocol.specs.Questions.{Facts, is_told, is_subscribed}
use Rattle.protocol.specs.Sayings.{Saying}
use Rattle.protocol.specs.Sayings.Saying.{Counted}
use Rattle.protocol.specs.Seen.{Seen, Doing}
use Rattle.protocol.specs.Start.{numbers}
use Rattle.protocol.specs.Take.{take_rules, bundle_step, bundle_sent, is_kill, posts as taken_posts}
use Rattle.model.specs.Settling.{total, up_weight, down_weight, is_load, is_answered, is_request, makes_or_drops}
use Rattle.model.proofs.Arranging.{put, put_is}
use Rattle.model.proofs.WeightsSums.{at_one, at_most, total_none, total_one, total_three}
use Rattle.model.proofs.WeightsLinks.{up_out, down_out}

-- ---- either way

pub either_way : {X Y : Type 0} (P : Y → Type 0) (f : X → Y) (o : Option X) (d : Y) → ((x : X) → P (f x)) → P d → P (option_map_or f o d)
either_way P f None d one other = other
either_way P f (Some x) d one other = one x

pub if_either : {X : Type 0} (P : X → Type 0) (b : Bool) (x y : X) → P x → P y → P (if b then x else y)
if_either P true x y one other = one
if_either P false x y one other = other

-- ---- lists

all_joined : {X : Type 0} (P : X → Type 0) (xs ys : List X) → AllByRecursion P xs → AllByRecursion P ys → AllByRecursion P (xs ++ ys)
all_joined P [] ys all more = more
all_joined P (x ∷ xs) ys all more = (all.0, all_joined P xs ys all.1 more)

none_any : {X : Type 0} (test : X → Bool) (xs : List X) → AllByRecursion (λ x. test x ≡ false) xs → list_any test xs ≡ false
none_any test [] all = refl
none_any test (x ∷ xs) all = ap (λ b. b || list_any test xs) all.0 ∙ none_any test xs all.1

no_or : (a b : Bool) → (a || b) ≡ false → (a ≡ false) × (b ≡ false)
no_or true b e = absurd cc
no_or false b e = (refl, e)

any_none : {X : Type 0} (test : X → Bool) (xs : List X) → list_any test xs ≡ false → AllByRecursion (λ x. test x ≡ false) xs
any_none test [] e = tt
any_none test (x ∷ xs) e = let both : (test x ≡ false) × (list_any test xs ≡ false) = no_or (test x) (list_any test xs) e in (both.0, any_none test xs both.1)

both_all : {X : Type 0} (P Q : X → Type 0) (xs : List X) → AllByRecursion P xs → AllByRecursion Q xs → AllByRecursion (λ x. P x × Q x) xs
both_all P Q [] one two = tt
both_all P Q (x ∷ xs) one two = ((one.0, two.0), both_all P Q xs one.1 two.1)

firsts : {X : Type 0} (P Q : X → Type 0) (xs : List X) → AllByRecursion (λ x. P x × Q x) xs → AllByRecursion P xs
firsts P Q [] all = tt
firsts P Q (x ∷ xs) all = (all.0.0, firsts P Q xs all.1)

seconds : {X : Type 0} (P Q : X → Type 0) (xs : List X) → AllByRecursion (λ x. P x × Q x) xs → AllByRecursion Q xs
seconds P Q [] all = tt
seconds P Q (x ∷ xs) all = (all.0.1, seconds P Q xs all.1)

-- parts keep what holds of each as they are put in order
all_put : (P : DownPart → Type 0) (d : DownPart) (es : List DownPart) → P d → AllByRecursion P es → AllByRecursion P (put d es)
all_put P d [] one all = (one, tt)
all_put P d (e ∷ es) one all = by_rank (nat_lt (down_rank d) (down_rank e)) (all_put P d es one all.1)
  where
    by_rank : (b : Bool) → AllByRecursion P (put d es) → AllByRecursion P (if b then d ∷ e ∷ es else e ∷ put d es)
    by_rank true rest = (one, all)
    by_rank false rest = (all.0, rest)

all_with : (P : DownPart → Type 0) (ds es : List DownPart) → AllByRecursion P ds → AllByRecursion P es → AllByRecursion P (parts_with_all ds es)
unfolding parts_with_all
all_with P [] es all others = others
all_with P (d ∷ ds) es all others = all_with P ds (parts_with d es) all.1 (subst (AllByRecursion P) (sym (put_is d es)) (all_put P d es all.0 others))

all_in_order : (P : DownPart → Type 0) (ds : List DownPart) → AllByRecursion P ds → AllByRecursion P (in_order ds)
all_in_order P ds all = all_with P ds [] all tt

-- ---- what the parent sends

-- a part that is no Load
abbrev IsLight : DownPart → Type 0
IsLight d = is_load d ≡ false

-- nor one that has a process send something
abbrev IsPlain : DownPart → Type 0
IsPlain d = (is_load d ≡ false) × (is_answered d ≡ false)

weighs_3 : (load answered : Bool) → load ≡ false → (if load then 18 else if answered then 3 else 1) ≤ 3
weighs_3 true answered e = absurd cc
weighs_3 false true e = omega arith
weighs_3 false false e = omega arith

weighs_1 : (load answered : Bool) → load ≡ false → answered ≡ false → (if load then 18 else if answered then 3 else 1) ≤ 1
weighs_1 true answered e i = absurd cc
weighs_1 false true e i = absurd cc
weighs_1 false false e i = omega arith

light_out : (f : Facts) (q : ℕ) (ds : List DownPart) → AllByRecursion IsLight ds → down_out (bundle_for f q ds) ≤ 3
light_out f q [] all = omega arith
light_out f q (d ∷ ds) all = weighs_3 (list_any is_load (d ∷ ds)) (list_any is_answered (d ∷ ds)) (none_any is_load (d ∷ ds) all)

plain_out : (f : Facts) (q : ℕ) (ds : List DownPart) → AllByRecursion IsPlain ds → down_out (bundle_for f q ds) ≤ 1
plain_out f q [] all = omega arith
plain_out f q (d ∷ ds) all =
    weighs_1 (list_any is_load (d ∷ ds)) (list_any is_answered (d ∷ ds))
    (none_any is_load (d ∷ ds) (firsts IsLight (λ e. is_answered e ≡ false) (d ∷ ds) all)) (none_any is_answered (d ∷ ds) (seconds IsLight (λ e. is_answered e ≡ false) (d ∷ ds) all))

nothing_out : (f : Facts) (q : ℕ) (ds : List DownPart) → AllByRecursion (λ (d : DownPart). ⊥) ds → down_out (bundle_for f q ds) ≤ 0
nothing_out f q [] all = omega arith
nothing_out f q (d ∷ ds) all = absurd all.0

-- what it sends of one part that it hears: nothing that loads
light_posts : (f : Facts) (p q : ℕ) (u : UpPart) (n : PartNote) → AllByRecursion IsLight (posts f p u n q)
unfolding posts
light_posts f p q (ups.Create x above) (notes.Create y Done) = if_either (AllByRecursion IsLight) (is_other_told f p q above) _ [] (refl, tt) tt
light_posts f p q (ups.Create x above) (notes.Create y Late) = if_either (AllByRecursion IsLight) (q == p) _ [] (refl, tt) tt
light_posts f p q (ups.Drop x) (notes.Drop y Done) = if_either (AllByRecursion IsLight) (is_other_told f p q x) _ [] (refl, tt) tt
light_posts f p q (ups.Commit x t) (notes.Commit y ns) =
    if_either (AllByRecursion IsLight) (q == p) _ _ (light_commit x (values_where (is_noted is_reverted ns) f x))
    (if_either (AllByRecursion IsLight) (is_told f q x) _ [] (light_commit x (changes_where (is_noted is_applied ns) t)) tt)
  where
    light_commit : (x : ContextId) (t : Changes) → AllByRecursion IsLight (commit_unless_empty x t)
    light_commit x t = if_either (AllByRecursion IsLight) (list_any is_some t) (downs.Commit x t ∷ []) [] (refl, tt) tt
light_posts f p q _ _ = tt

-- of one that makes and drops nothing, nothing that is answered
plain_posts : (f : Facts) (p q : ℕ) (u : UpPart) (n : PartNote) → makes_or_drops u ≡ false → AllByRecursion IsPlain (posts f p u n q)
unfolding posts
plain_posts f p q (ups.Create x above) n e = absurd cc
plain_posts f p q (ups.Drop x) n e = absurd cc
plain_posts f p q (ups.Commit x t) (notes.Commit y ns) e =
    if_either (AllByRecursion IsPlain) (q == p) _ _ (plain_commit x (values_where (is_noted is_reverted ns) f x))
    (if_either (AllByRecursion IsPlain) (is_told f q x) _ [] (plain_commit x (changes_where (is_noted is_applied ns) t)) tt)
  where
    plain_commit : (x : ContextId) (t : Changes) → AllByRecursion IsPlain (commit_unless_empty x t)
    plain_commit x t = if_either (AllByRecursion IsPlain) (list_any is_some t) (downs.Commit x t ∷ []) [] ((refl, refl), tt) tt
plain_posts f p q _ _ e = tt

-- and of one that is no commit either, nothing
no_posts : (f : Facts) (p q : ℕ) (u : UpPart) (n : PartNote) → (makes_or_drops u ≡ false) × (is_commit u ≡ false) → AllByRecursion (λ (d : DownPart). ⊥) (posts f p u n q)
unfolding posts
no_posts f p q (ups.Create x above) n e = let no : makes_or_drops (ups.Create x above) ≡ false = e.0 in absurd cc
no_posts f p q (ups.Drop x) n e = let no : makes_or_drops (ups.Drop x) ≡ false = e.0 in absurd cc
no_posts f p q (ups.Commit x t) n e = let no : is_commit (ups.Commit x t) ≡ false = e.1 in absurd cc
no_posts f p q _ n e = tt

-- what it sends of all parts
all_posts : (P : DownPart → Type 0) (S : UpPart → Type 0) (allows : Field → Bool) (facts : List Saying → Facts) (next : Saying → List Saying → List Saying) (p q : ℕ)
    → ((f : Facts) (u : UpPart) (n : PartNote) → S u → AllByRecursion P (posts f p u n q))
    → (parts : List UpPart) (s : List Saying) → AllByRecursion S parts → AllByRecursion P (posts_of (hear_rules allows p q) facts next s parts)
unfolding posts_of
all_posts P S allows facts next p q each [] s all = tt
all_posts P S allows facts next p q each (u ∷ parts) s all =
    all_joined P (posts (facts s) p u ((hear_rules allows p q).note (facts s) u) q) (posts_of (hear_rules allows p q) facts next (after_part (hear_rules allows p q) facts next u s) parts)
    (each (facts s) u ((hear_rules allows p q).note (facts s) u) all.0)
    (all_posts P S allows facts next p q each parts (after_part (hear_rules allows p q) facts next u s) all.1)

any_parts : (parts : List UpPart) → AllByRecursion (λ (u : UpPart). Unit {0}) parts
any_parts [] = tt
any_parts (u ∷ parts) = (tt, any_parts parts)

-- ---- a bundle that is heard has less sent than it weighs

abbrev weight_by : Bool → Bool → Bool → ℕ
weight_by request makes commit = if request then 64 else if makes then 49 else if commit then 17 else 2

two_at_least : (r m k : Bool) → 2 ≤ weight_by r m k
two_at_least true m k = omega arith
two_at_least false true k = omega arith
two_at_least false false true = omega arith
two_at_least false false false = omega arith

at_most_64 : (r m k : Bool) → weight_by r m k ≤ 64
at_most_64 true m k = omega arith
at_most_64 false true k = omega arith
at_most_64 false false true = omega arith
at_most_64 false false false = omega arith

pub up_at_most : (b : UpBundle) → up_weight b ≤ 64
up_at_most b = at_most_64 (list_any is_request b.parts) (list_any makes_or_drops b.parts) (list_any is_commit b.parts)

pub up_out_at_most : (o : Option UpBundle) → up_out o ≤ 64
up_out_at_most None = omega arith
up_out_at_most (Some b) = up_at_most b

up_at_least : (b : UpBundle) → 2 ≤ up_weight b
up_at_least b = two_at_least (list_any is_request b.parts) (list_any makes_or_drops b.parts) (list_any is_commit b.parts)

weight_is : (b : UpBundle) (r m k : Bool) → list_any is_request b.parts ≡ r → list_any makes_or_drops b.parts ≡ m → list_any is_commit b.parts ≡ k → up_weight b ≡ weight_by r m k
weight_is b r m k er em ek =
    ap (λ v. weight_by v (list_any makes_or_drops b.parts) (list_any is_commit b.parts)) er ∙ ap (λ v. weight_by r v (list_any is_commit b.parts)) em ∙ ap (λ v. weight_by r m v) ek

-- what a ruling sends each process weighs so much at most, and all of it less than the bundle, where there are n
-- processes
pub record SendsLess (n : ℕ) (b : UpBundle) (r : Ruling (List Saying)) : Type 0 where
  pub bound : ℕ → ℕ
  pub each : (f : Facts) (q : ℕ) → down_out (bundle_for f q (r.sends q)) ≤ bound q
  pub less : n ≤ 16 → total bound (numbers 0 n) + 1 ≤ up_weight b

end_plain : (cause : EndCause) → AllByRecursion IsPlain (end_parts cause)
end_plain Failed = tt
end_plain _ = ((refl, refl), tt)

module _ (allows : Field → Bool) (facts : List Saying → Facts) (n p : ℕ) (b : UpBundle) where
  nothing_less : (s : List Saying) → SendsLess n b (ruling facts (λ y says. y ∷ says) n Ignored (λ q. []) s)
  nothing_less s = record { bound = λ q. 0; each = λ f q. omega arith; less = λ few. omega (arith, total_none (numbers 0 n), up_at_least b) }

  end_less : (cause : EndCause) (s : List Saying) → SendsLess n b (end_ruling facts (λ y says. y ∷ says) n p cause s)
  end_less cause s = record {
    bound = at_one p 1;
    each = λ f q. by f q (q == p);
    less = λ few. omega (arith, at_most p 1 0 n, up_at_least b);
  }
    where
      by : (f : Facts) (q : ℕ) (v : Bool) → down_out (bundle_for f q (if v then end_parts cause else [])) ≤ (if v then 1 else 0)
      by f q true = plain_out f q (end_parts cause) (end_plain cause)
      by f q false = omega arith

  done_less : (s : List Saying) → SendsLess n b (parts_ruling facts (λ y says. y ∷ says) n allows p b s)
  done_less s = by (list_any is_request b.parts) (list_any makes_or_drops b.parts) (list_any is_commit b.parts) refl refl refl
    where
      light : (f : Facts) (q : ℕ) → down_out (bundle_for f q (in_order (posts_of (hear_rules allows p q) facts (λ y says. y ∷ says) s b.parts))) ≤ 3
      light f q =
          light_out f q (in_order (posts_of (hear_rules allows p q) facts (λ y says. y ∷ says) s b.parts)) (all_in_order IsLight (posts_of (hear_rules allows p q) facts (λ y says. y ∷ says) s b.parts)
          (all_posts IsLight (λ u. Unit {0}) allows facts (λ y says. y ∷ says) p q (λ f u n any. light_posts f p q u n) b.parts s (any_parts b.parts)))

      plain : (f : Facts) (q : ℕ) → list_any makes_or_drops b.parts ≡ false → down_out (bundle_for f q (in_order (posts_of (hear_rules allows p q) facts (λ y says. y ∷ says) s b.parts))) ≤ 1
      plain f q e =
          plain_out f q (in_order (posts_of (hear_rules allows p q) facts (λ y says. y ∷ says) s b.parts)) (all_in_order IsPlain (posts_of (hear_rules allows p q) facts (λ y says. y ∷ says) s b.parts)
          (all_posts IsPlain (λ u. makes_or_drops u ≡ false) allows facts (λ y says. y ∷ says) p q (λ f u n one. plain_posts f p q u n one) b.parts s (any_none makes_or_drops b.parts e)))

      nothing : (f : Facts) (q : ℕ) → list_any makes_or_drops b.parts ≡ false → list_any is_commit b.parts ≡ false
          → down_out (bundle_for f q (in_order (posts_of (hear_rules allows p q) facts (λ y says. y ∷ says) s b.parts))) ≤ 0
      nothing f q e i =
          nothing_out f q (in_order (posts_of (hear_rules allows p q) facts (λ y says. y ∷ says) s b.parts)) (all_in_order (λ (d : DownPart). ⊥) (posts_of (hear_rules allows p q) facts (λ y says. y ∷ says) s b.parts)
          (all_posts (λ (d : DownPart). ⊥) (λ u. (makes_or_drops u ≡ false) × (is_commit u ≡ false)) allows facts (λ y says. y ∷ says) p q (λ f u n one. no_posts f p q u n one) b.parts s
          (both_all (λ u. makes_or_drops u ≡ false) (λ u. is_commit u ≡ false) b.parts (any_none makes_or_drops b.parts e) (any_none is_commit b.parts i))))

      by : (r m k : Bool) → list_any is_request b.parts ≡ r → list_any makes_or_drops b.parts ≡ m → list_any is_commit b.parts ≡ k → SendsLess n b (parts_ruling facts (λ y says. y ∷ says) n allows p b s)
      by true m k er em ek = record { bound = λ q. 3; each = light; less = λ few. omega (arith, total_three 0 n, weight_is b true m k er em ek) }
      by false true k er em ek = record { bound = λ q. 3; each = light; less = λ few. omega (arith, total_three 0 n, weight_is b false true k er em ek) }
      by false false true er em ek = record { bound = λ q. 1; each = λ f q. plain f q em; less = λ few. omega (arith, total_one 0 n, weight_is b false false true er em ek) }
      by false false false er em ek = record { bound = λ q. 0; each = λ f q. nothing f q em ek; less = λ few. omega (arith, total_none (numbers 0 n), weight_is b false false false er em ek) }

  pub bundle_less : SendsLess n b (bundle_ruling facts (λ y says. y ∷ says) n allows p b [])
  bundle_less =
      let counted : List Saying = if is_counted (facts []) p b then Counted p ∷ [] else [] in
      if_either (SendsLess n b) (is_some ((facts []).processes.ended p)) (ruling facts (λ y says. y ∷ says) n Ignored (λ q. []) []) _ (nothing_less [])
      (either_way (SendsLess n b) (λ cause. end_ruling facts (λ y says. y ∷ says) n p cause counted)
      (or_later (envelope_fault (facts []) p b) (first_fault (hear_rules allows p p) facts (λ y says. y ∷ says) 1 counted b.parts))
      (parts_ruling facts (λ y says. y ∷ says) n allows p b counted) (λ cause. end_less cause counted) (done_less counted))

-- ---- an action of the parent

light_acts : (f behind : Facts) (action : ParentAction) (q : ℕ) → AllByRecursion IsLight (parent_posts f behind action q)
unfolding parent_posts
light_acts f behind (parents.Set x t) q = if_either (AllByRecursion IsLight) (is_told f q x) _ [] (refl, tt) tt
light_acts f behind (parents.Tab p named) q =
    if_either (AllByRecursion IsLight) (is_subscribed f q (group_of_tab f named)) (downs.Create (known_of behind q (context_of_tab f)) ∷ []) _ (refl, tt)
    (if_either (AllByRecursion IsLight) (q == p.0) (register_of behind q (group_of_tab f named) ∷ []) [] (refl, tt) tt)
light_acts f behind (parents.Subscribe p g) q = if_either (AllByRecursion IsLight) (q == p.0 && not (is_subscribed f q g)) (register_of behind q g ∷ []) [] (refl, tt) tt
light_acts f behind (parents.Discard x) q = if_either (AllByRecursion IsLight) (is_told f q x) _ [] (refl, tt) tt
light_acts f behind (parents.Kill p) q = if_either (AllByRecursion IsLight) (q == p.0) _ [] (refl, tt) tt
light_acts f behind _ q = tt

-- each process is sent little
pub record SendsLittle (r : Ruling (List Saying)) : Type 0 where
  pub each : (f : Facts) (q : ℕ) → down_out (bundle_for f q (r.sends q)) ≤ 3

pub action_little : (facts : List Saying → Facts) (n : ℕ) (action : ParentAction) → SendsLittle (action_ruling facts (λ y says. y ∷ says) n action [])
action_little facts n action =
    either_way SendsLittle (λ why. ruling facts (λ y says. y ∷ says) n (Refused why) (λ q. []) []) (parent_refusal (facts []) action) (done_ruling facts (λ y says. y ∷ says) n action [])
    (λ why. record { each = λ f q. omega arith })
    (record { each = λ f q. light_out f q _ (all_in_order IsLight _ (light_acts (facts []) _ action q)) })

-- ---- a bundle that is taken has less sent than it weighs

-- a part that weighs little
abbrev IsWeak : UpPart → Type 0
IsWeak u = (is_request u ≡ false) × ((makes_or_drops u ≡ false) × (is_commit u ≡ false))

weak_out : (s : Seen) (parts : List UpPart) → AllByRecursion IsWeak parts → up_out (bundle_sent s parts) ≤ 2
weak_out s [] all = omega arith
weak_out s (u ∷ parts) all =
    let others : AllByRecursion (λ v. (makes_or_drops v ≡ false) × (is_commit v ≡ false)) (u ∷ parts) = seconds (λ v. is_request v ≡ false) (λ v. (makes_or_drops v ≡ false) × (is_commit v ≡ false)) (u ∷ parts) all in
    omega (
      arith,
      weight_is (record { epoch = record { 0 = s.commits }; seen = s.taken; parts = u ∷ parts }) false false false
          (none_any is_request (u ∷ parts) (firsts (λ v. is_request v ≡ false) (λ v. (makes_or_drops v ≡ false) × (is_commit v ≡ false)) (u ∷ parts) all))
          (none_any makes_or_drops (u ∷ parts) (firsts (λ v. makes_or_drops v ≡ false) (λ v. is_commit v ≡ false) (u ∷ parts) others))
          (none_any is_commit (u ∷ parts) (seconds (λ v. makes_or_drops v ≡ false) (λ v. is_commit v ≡ false) (u ∷ parts) others)),
    )

module _ (p epoch : ℕ) (now : List Doing → Seen) where
  -- acknowledgements alone
  weak_posts : (ds : List DownPart) (did : List Doing) → AllByRecursion IsWeak (posts_of (take_rules p epoch) now (λ d did. d ∷ did) did ds)
  unfolding posts_of taken_posts
  weak_posts [] did = tt
  weak_posts (downs.Discard x ∷ ds) did = ((refl, (refl, refl)), weak_posts ds _)
  weak_posts (_ ∷ ds) did = weak_posts ds _

  -- and of what isn't answered, nothing
  none_posts : (ds : List DownPart) (did : List Doing) → list_any is_answered ds ≡ false → posts_of (take_rules p epoch) now (λ d did. d ∷ did) did ds ≡ []
  unfolding posts_of taken_posts
  none_posts [] did e = refl
  none_posts (downs.Discard x ∷ ds) did e = absurd cc
  none_posts (downs.Ask q w actor text ∷ ds) did e = absurd cc
  none_posts (_ ∷ ds) did e = none_posts ds _ e

down_by_answered : (load answered : Bool) → 1 ≤ (if load then 18 else if answered then 3 else 1)
down_by_answered true answered = omega arith
down_by_answered false true = omega arith
down_by_answered false false = omega arith

down_answered : (load answered : Bool) → answered ≡ true → 3 ≤ (if load then 18 else if answered then 3 else 1)
down_answered true answered e = omega arith
down_answered false true e = omega arith
down_answered false false e = absurd cc

pub take_less : (p : ℕ) (now : List Doing → Seen) (s : Seen) (b : DownBundle) → up_out (bundle_sent s (bundle_step now (λ d did. d ∷ did) p b []).sends) + 1 ≤ down_weight b
take_less p now s b = by_kill (list_any is_kill b.parts)
  where
    by_answered : (a : Bool) → list_any is_answered b.parts ≡ a → up_out (bundle_sent s (posts_of (take_rules p b.epoch.0) now (λ d did. d ∷ did) [] b.parts)) + 1 ≤ down_weight b
    by_answered true e = omega (arith, weak_out s (posts_of (take_rules p b.epoch.0) now (λ d did. d ∷ did) [] b.parts) (weak_posts p b.epoch.0 now b.parts []), down_answered (list_any is_load b.parts) (list_any is_answered b.parts) e)
    by_answered false e =
        let none : up_out (bundle_sent s (posts_of (take_rules p b.epoch.0) now (λ d did. d ∷ did) [] b.parts)) ≡ 0 = ap (λ us. up_out (bundle_sent s us)) (none_posts p b.epoch.0 now b.parts [] e) in
        omega (arith, none, down_by_answered (list_any is_load b.parts) (list_any is_answered b.parts))

    by_kill : (v : Bool) → up_out (bundle_sent s (if v then [] else posts_of (take_rules p b.epoch.0) now (λ d did. d ∷ did) [] b.parts)) + 1 ≤ down_weight b
    by_kill true = omega (arith, down_by_answered (list_any is_load b.parts) (list_any is_answered b.parts))
    by_kill false = by_answered (list_any is_answered b.parts) refl
