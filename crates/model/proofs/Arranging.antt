-- Parts that are put in their order: each behind all of its kind and of the kinds before.
use Rattle.std.proofs.Common.{◌≡◌, ℕ, suc, ◌+◌, Bool, true, false, not, if◌then◌else◌, List, [], ◌∷◌, ◌++◌, refl, ap, ap₂, sym, subst, ◌∙◌, append_assoc, append-nil, arith}
use Rattle.std.specs.Prelude.{nat_lt}
use Rattle.std.proofs.lemmas.Bool.{lt-ltb, ltb-true, ltb-false}
use Rattle.std.specs.List.{insert, prefix_len}
use Rattle.fission_ids.specs.declared.context.ContextId.{ContextId}
use Rattle.fission_ids.specs.Ids.{same_context}
use Rattle.wire_msgs.specs.declared.part.DownPart.{DownPart}
use Rattle.wire_msgs.specs.declared.part.DownPart.TheVariants as downs
use Rattle.wire_msgs.specs.declared.part.Known.{Known}
use Rattle.protocol.specs.Order.{down_rank, parts_with, parts_with_all, in_order}
use Rattle.protocol.specs.Questions.{option_any}
use Rattle.trees.specs.Look.{Handing}
use Rattle.trees.specs.Look.Handing.{Same}
use Rattle.trees.specs.Rules.{told_owner}
use Rattle.model.specs.Trees.{both, later_hand, hand_if, parts_tell, parts_bring, parts_handed}
use Rattle.model.proofs.Living.{both_stays, both_swapped, both_joined}
use Rattle.model.proofs.Posting.{tell_append}

-- the same, part by part
abbrev pub put : DownPart → List DownPart → List DownPart
put d [] = d ∷ []
put d (e ∷ es) = if nat_lt (down_rank d) (down_rank e) then d ∷ e ∷ es else e ∷ put d es

put_at : (d : DownPart) (b : Bool) (e : DownPart) (es : List DownPart) (n : ℕ) → insert es n d ≡ put d es → insert (e ∷ es) (if not b then 1 + n else 0) d ≡ (if b then d ∷ e ∷ es else e ∷ put d es)
put_at d true e es n rest = refl
put_at d false e es n rest = let one : 1 + n ≡ suc n = omega arith in ap (λ m. insert (e ∷ es) m d) one ∙ ap (λ xs. e ∷ xs) rest

pub put_is : (d : DownPart) (es : List DownPart) → parts_with d es ≡ put d es
put_is d [] = refl
put_is d (e ∷ es) = put_at d (nat_lt (down_rank d) (down_rank e)) e es (prefix_len (λ e. not (nat_lt (down_rank d) (down_rank e))) es) (put_is d es)

-- ---- what comes and goes doesn't depend on the order

tell_put : (x : ContextId) (ln : List ContextId) (d : DownPart) (es : List DownPart) → parts_tell x ln (put d es) ≡ both (parts_tell x ln (d ∷ [])) (parts_tell x ln es)
tell_put x ln d [] = sym (both_stays (parts_tell x ln (d ∷ [])))
tell_put x ln d (e ∷ es) = by_rank (nat_lt (down_rank d) (down_rank e)) (tell_put x ln d es)
  where
    by_rank : (b : Bool) → parts_tell x ln (put d es) ≡ both (parts_tell x ln (d ∷ [])) (parts_tell x ln es) → parts_tell x ln (if b then d ∷ e ∷ es else e ∷ put d es) ≡ both (parts_tell x ln (d ∷ [])) (parts_tell x ln (e ∷ es))
    by_rank true rest = tell_append x ln (d ∷ []) (e ∷ es)
    by_rank false rest =
        tell_append x ln (e ∷ []) (put d es) ∙ ap (both (parts_tell x ln (e ∷ []))) rest
        ∙ sym (both_joined (parts_tell x ln (e ∷ [])) (parts_tell x ln (d ∷ [])) (parts_tell x ln es))
        ∙ ap (λ a. both a (parts_tell x ln es)) (both_swapped (parts_tell x ln (e ∷ [])) (parts_tell x ln (d ∷ [])))
        ∙ both_joined (parts_tell x ln (d ∷ [])) (parts_tell x ln (e ∷ [])) (parts_tell x ln es)
        ∙ ap (both (parts_tell x ln (d ∷ []))) (sym (tell_append x ln (e ∷ []) es))

tell_all : (x : ContextId) (ln : List ContextId) (ds es : List DownPart) → parts_tell x ln (parts_with_all ds es) ≡ both (parts_tell x ln ds) (parts_tell x ln es)
unfolding parts_with_all
tell_all x ln [] es = refl
tell_all x ln (d ∷ ds) es =
    tell_all x ln ds (parts_with d es)
    ∙ ap (both (parts_tell x ln ds)) (ap (parts_tell x ln) (put_is d es) ∙ tell_put x ln d es)
    ∙ sym (both_joined (parts_tell x ln ds) (parts_tell x ln (d ∷ [])) (parts_tell x ln es))
    ∙ ap (λ a. both a (parts_tell x ln es)) (both_swapped (parts_tell x ln ds) (parts_tell x ln (d ∷ [])) ∙ sym (tell_append x ln (d ∷ []) ds))

pub tell_ordered : (x : ContextId) (ln : List ContextId) (ds : List DownPart) → parts_tell x ln (in_order ds) ≡ parts_tell x ln ds
tell_ordered x ln ds = tell_all x ln ds [] ∙ both_stays (parts_tell x ln ds)

-- ---- what is told of comes in the order in which it was posted

-- what a part tells of
abbrev pub come_one : DownPart → List Known
come_one (downs.Create k) = k ∷ []
come_one _ = []

abbrev pub come_all : List DownPart → List Known
come_all [] = []
come_all (d ∷ ds) = come_one d ++ come_all ds

-- behind the kinds that stand behind a coming nothing comes
abbrev pub ComeFirst : List DownPart → Type 0
ComeFirst [] = Unit {0}
ComeFirst (d ∷ ds) = (nat_lt 2 (down_rank d) ≡ true → come_all ds ≡ []) × ComeFirst ds

none_behind : (d : DownPart) → nat_lt 2 (down_rank d) ≡ true → come_one d ≡ []
none_behind (downs.Create k) e = absurd cc
none_behind (_) e = refl

pub come_append : (ds es : List DownPart) → come_all (ds ++ es) ≡ come_all ds ++ come_all es
come_append [] es = refl
come_append (d ∷ ds) es = ap (λ ks. come_one d ++ ks) (come_append ds es) ∙ sym (append_assoc (come_one d) (come_all ds) (come_all es))

come_put : (d : DownPart) (es : List DownPart) → ComeFirst es → come_all (put d es) ≡ come_all es ++ come_one d
come_put d [] first = append-nil (come_one d)
come_put d (e ∷ es) first = by_rank (nat_lt (down_rank d) (down_rank e)) refl (come_put d es first.1)
  where
    -- what is put before another kind is a coming, or none comes behind
    before : (d : DownPart) → nat_lt (down_rank d) (down_rank e) ≡ true → come_one d ++ come_all (e ∷ es) ≡ come_all (e ∷ es) ++ come_one d
    before (downs.Create k) later = let nothing : come_all (e ∷ es) ≡ [] = ap₂ (λ u v. u ++ v) (none_behind e later) (first.0 later) in ap (λ ks. k ∷ ks) nothing ∙ ap (λ ks. ks ++ k ∷ []) (sym nothing)
    before (_) later = sym (append-nil (come_all (e ∷ es)))

    by_rank : (b : Bool) → nat_lt (down_rank d) (down_rank e) ≡ b → come_all (put d es) ≡ come_all es ++ come_one d → come_all (if b then d ∷ e ∷ es else e ∷ put d es) ≡ come_all (e ∷ es) ++ come_one d
    by_rank true is rest = before d is
    by_rank false is rest = ap (λ ks. come_one e ++ ks) rest ∙ sym (append_assoc (come_one e) (come_all es) (come_one d))

first_put : (d : DownPart) (es : List DownPart) → ComeFirst es → ComeFirst (put d es)
first_put d [] first = ((λ later. refl), tt)
first_put d (e ∷ es) first = by_rank (nat_lt (down_rank d) (down_rank e)) refl (first_put d es first.1)
  where
    -- a kind behind one behind a coming is behind it too
    further : (m n : ℕ) → nat_lt 2 m ≡ true → nat_lt m n ≡ true → nat_lt 2 n ≡ true
    further m n e d = lt-ltb 2 n (omega (arith, ltb-true 2 m e, ltb-true m n d))

    by_rank : (b : Bool) → nat_lt (down_rank d) (down_rank e) ≡ b → ComeFirst (put d es) → ComeFirst (if b then d ∷ e ∷ es else e ∷ put d es)
    by_rank true is rest = (
      (λ later. ap₂ (λ u v. u ++ v) (none_behind e (further (down_rank d) (down_rank e) later is)) (first.0 (further (down_rank d) (down_rank e) later is))),
      first,
    )
    by_rank false is rest = (
      (λ later. come_put d es first.1 ∙ ap₂ (λ u v. u ++ v) (first.0 later) (none_behind d (unless_before (down_rank d) (down_rank e) later is))),
      rest,
    )
      where
        unless_before : (m n : ℕ) → nat_lt 2 n ≡ true → nat_lt m n ≡ false → nat_lt 2 m ≡ true
        unless_before m n e d = lt-ltb 2 m (omega (arith, ltb-true 2 n e, ltb-false m n d))

pub come_with : (ds es : List DownPart) → ComeFirst es → (come_all (parts_with_all ds es) ≡ come_all es ++ come_all ds) × ComeFirst (parts_with_all ds es)
unfolding parts_with_all
come_with [] es first = (sym (append-nil (come_all es)), first)
come_with (d ∷ ds) es first =
    let one : come_all (parts_with d es) ≡ come_all es ++ come_one d = ap come_all (put_is d es) ∙ come_put d es first in
    let rest : (come_all (parts_with_all ds (parts_with d es)) ≡ come_all (parts_with d es) ++ come_all ds) × ComeFirst (parts_with_all ds (parts_with d es)) =
    come_with ds (parts_with d es) (subst ComeFirst (sym (put_is d es)) (first_put d es first)) in
    (rest.0 ∙ ap (λ ks. ks ++ come_all ds) one ∙ append_assoc (come_all es) (come_one d) (come_all ds), rest.1)

pub come_ordered : (ds : List DownPart) → come_all (in_order ds) ≡ come_all ds
come_ordered ds = (come_with ds [] tt).0

-- children and owners are told by what comes alone
brings_of : ContextId → List Known → List ContextId
brings_of y [] = []
brings_of y (k ∷ ks) = if option_any (same_context y) k.parent then k.context ∷ brings_of y ks else brings_of y ks

bring_is : (y : ContextId) (ds : List DownPart) → parts_bring y ds ≡ brings_of y (come_all ds)
unfolding brings_of
bring_is y [] = refl
bring_is y (downs.Create k ∷ ds) = ap (λ xs. if option_any (same_context y) k.parent then k.context ∷ xs else xs) (bring_is y ds)
bring_is y (_ ∷ ds) = bring_is y ds

hands_of : ContextId → List Known → Handing
hands_of y [] = Same
hands_of y (k ∷ ks) = later_hand (hands_of y ks) (hand_if (same_context y k.context) (told_owner k.owned))

handed_is : (y : ContextId) (ds : List DownPart) → parts_handed y ds ≡ hands_of y (come_all ds)
unfolding hands_of
handed_is y [] = refl
handed_is y (downs.Create k ∷ ds) = ap (λ h. later_hand h (hand_if (same_context y k.context) (told_owner k.owned))) (handed_is y ds)
handed_is y (_ ∷ ds) = handed_is y ds

pub bring_ordered : (y : ContextId) (ds : List DownPart) → parts_bring y (in_order ds) ≡ parts_bring y ds
bring_ordered y ds = bring_is y (in_order ds) ∙ ap (brings_of y) (come_ordered ds) ∙ sym (bring_is y ds)

pub handed_ordered : (y : ContextId) (ds : List DownPart) → parts_handed y (in_order ds) ≡ parts_handed y ds
handed_ordered y ds = handed_is y (in_order ds) ∙ ap (hands_of y) (come_ordered ds) ∙ sym (handed_is y ds)
