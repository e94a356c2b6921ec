-- The parts of a bundle that are put in their order, with each context that comes in a part of its own.
use Rattle.std.proofs.Common.{◌≡◌, ℕ, Bool, true, false, if◌then◌else◌, List, [], ◌∷◌, ◌++◌, map, refl, ap, sym, subst, ◌∙◌, append_assoc, append-nil, arith}
use Rattle.std.specs.Prelude.{nat_lt}
use Rattle.std.proofs.lemmas.Bool.{lt-ltb, ltb-true, ltb-false}
use Rattle.std.specs.List.{AllByRecursion}
use Rattle.fission_ids.specs.declared.context.ContextId.{ContextId}
use Rattle.wire_msgs.specs.declared.part.DownPart.{DownPart}
use Rattle.wire_msgs.specs.declared.part.DownPart.TheVariants as downs
use Rattle.wire_msgs.specs.declared.part.Known.{Known}
use Rattle.protocol.specs.Order.{down_rank, parts_with, parts_with_all, in_order}
use Rattle.trees.specs.Look.{Effect}
use Rattle.model.specs.Trees.{both, parts_tell}
use Rattle.model.specs.View.{singles}
use Rattle.model.proofs.Arranging.{put, put_is, come_all, come_append, ComeFirst}
use Rattle.model.proofs.Living.{both_stays, both_swapped, both_joined}
use Rattle.model.proofs.Posting.{tell_append}

-- ---- part by part

pub singles_more : (d : DownPart) (es : List DownPart) → singles (d ∷ es) ≡ singles (d ∷ []) ++ singles es
singles_more (downs.Register g ks) es = ap (λ ps. ps ++ singles es) (sym (append-nil (map (λ (k : Known). downs.Create k) ks)))
singles_more (_) es = refl

pub singles_append : (ds es : List DownPart) → singles (ds ++ es) ≡ singles ds ++ singles es
singles_append [] es = refl
singles_append (downs.Register g ks ∷ ds) es =
    ap (λ ps. map (λ (k : Known). downs.Create k) ks ++ ps) (singles_append ds es)
    ∙ sym (append_assoc (map (λ (k : Known). downs.Create k) ks) (singles ds) (singles es))
singles_append (downs.Create k ∷ ds) es = ap (λ ps. downs.Create k ∷ ps) (singles_append ds es)
singles_append (downs.Commit y t ∷ ds) es = ap (λ ps. downs.Commit y t ∷ ps) (singles_append ds es)
singles_append (downs.Discard w ∷ ds) es = ap (λ ps. downs.Discard w ∷ ps) (singles_append ds es)
singles_append (d ∷ ds) es = ap (λ ps. d ∷ ps) (singles_append ds es)

-- ---- what comes and goes doesn't depend on the order

abbrev tell : ContextId → List ContextId → List DownPart → Effect
tell x ln ds = parts_tell x ln (singles ds)

pub tell_more : (x : ContextId) (ln : List ContextId) (d : DownPart) (es : List DownPart)
    → parts_tell x ln (singles (d ∷ es)) ≡ both (parts_tell x ln (singles (d ∷ []))) (parts_tell x ln (singles es))
tell_more x ln d es = ap (parts_tell x ln) (singles_more d es) ∙ tell_append x ln (singles (d ∷ [])) (singles es)

tell_put : (x : ContextId) (ln : List ContextId) (d : DownPart) (es : List DownPart) → tell x ln (put d es) ≡ both (tell x ln (d ∷ [])) (tell x ln es)
tell_put x ln d [] = sym (both_stays (tell x ln (d ∷ [])))
tell_put x ln d (e ∷ es) = by_rank (nat_lt (down_rank d) (down_rank e)) (tell_put x ln d es)
  where
    by_rank : (b : Bool) → tell x ln (put d es) ≡ both (tell x ln (d ∷ [])) (tell x ln es)
        → tell x ln (if b then d ∷ e ∷ es else e ∷ put d es) ≡ both (tell x ln (d ∷ [])) (tell x ln (e ∷ es))
    by_rank true rest = tell_more x ln d (e ∷ es)
    by_rank false rest =
        tell_more x ln e (put d es) ∙ ap (both (tell x ln (e ∷ []))) rest
        ∙ sym (both_joined (tell x ln (e ∷ [])) (tell x ln (d ∷ [])) (tell x ln es))
        ∙ ap (λ a. both a (tell x ln es)) (both_swapped (tell x ln (e ∷ [])) (tell x ln (d ∷ [])))
        ∙ both_joined (tell x ln (d ∷ [])) (tell x ln (e ∷ [])) (tell x ln es)
        ∙ ap (both (tell x ln (d ∷ []))) (sym (tell_more x ln e es))

tell_all : (x : ContextId) (ln : List ContextId) (ds es : List DownPart) → tell x ln (parts_with_all ds es) ≡ both (tell x ln ds) (tell x ln es)
unfolding parts_with_all
tell_all x ln [] es = refl
tell_all x ln (d ∷ ds) es =
    tell_all x ln ds (parts_with d es)
    ∙ ap (both (tell x ln ds)) (ap (tell x ln) (put_is d es) ∙ tell_put x ln d es)
    ∙ sym (both_joined (tell x ln ds) (tell x ln (d ∷ [])) (tell x ln es))
    ∙ ap (λ a. both a (tell x ln es)) (both_swapped (tell x ln ds) (tell x ln (d ∷ [])) ∙ sym (tell_more x ln d ds))

pub single_tells : (x : ContextId) (ln : List ContextId) (ds : List DownPart) → parts_tell x ln (singles (in_order ds)) ≡ parts_tell x ln (singles ds)
single_tells x ln ds = tell_all x ln ds [] ∙ both_stays (tell x ln ds)

-- ---- what holds of all that comes

pub all_append : (P : Known → Type 0) (xs ys : List Known) → AllByRecursion P xs → AllByRecursion P ys → AllByRecursion P (xs ++ ys)
all_append P [] ys all more = more
all_append P (x ∷ xs) ys all more = (all.0, all_append P xs ys all.1 more)

pub all_halves : (P : Known → Type 0) (xs ys : List Known) → AllByRecursion P (xs ++ ys) → AllByRecursion P xs × AllByRecursion P ys
all_halves P [] ys all = (tt, all)
all_halves P (x ∷ xs) ys all = let more : AllByRecursion P xs × AllByRecursion P ys = all_halves P xs ys all.1 in ((all.0, more.0), more.1)

-- of what comes in these parts
abbrev pub AllCome : (Known → Type 0) → List DownPart → Type 0
AllCome P ds = AllByRecursion P (come_all (singles ds))

come_more : (d : DownPart) (es : List DownPart) → come_all (singles (d ∷ es)) ≡ come_all (singles (d ∷ [])) ++ come_all (singles es)
come_more d es = ap come_all (singles_more d es) ∙ come_append (singles (d ∷ [])) (singles es)

pub all_come_with : (P : Known → Type 0) (d : DownPart) (es : List DownPart) → AllCome P (d ∷ []) → AllCome P es → AllCome P (d ∷ es)
all_come_with P d es one rest = subst (AllByRecursion P) (sym (come_more d es)) (all_append P (come_all (singles (d ∷ []))) (come_all (singles es)) one rest)

all_come_apart : (P : Known → Type 0) (d : DownPart) (es : List DownPart) → AllCome P (d ∷ es) → AllCome P (d ∷ []) × AllCome P es
all_come_apart P d es all = all_halves P (come_all (singles (d ∷ []))) (come_all (singles es)) (subst (AllByRecursion P) (come_more d es) all)

pub all_come_append : (P : Known → Type 0) (ds es : List DownPart) → AllCome P ds → AllCome P es → AllCome P (ds ++ es)
all_come_append P [] es all more = more
all_come_append P (d ∷ ds) es all more =
    let two : AllCome P (d ∷ []) × AllCome P ds = all_come_apart P d ds all in
    all_come_with P d (ds ++ es) two.0 (all_come_append P ds es two.1 more)

all_come_put : (P : Known → Type 0) (d : DownPart) (es : List DownPart) → AllCome P (d ∷ []) → AllCome P es → AllCome P (put d es)
all_come_put P d [] one rest = one
all_come_put P d (e ∷ es) one rest = by_rank (nat_lt (down_rank d) (down_rank e)) (all_come_apart P e es rest) (all_come_put P d es one)
  where
    by_rank : (b : Bool) → AllCome P (e ∷ []) × AllCome P es → (AllCome P es → AllCome P (put d es)) → AllCome P (if b then d ∷ e ∷ es else e ∷ put d es)
    by_rank true two further = all_come_with P d (e ∷ es) one rest
    by_rank false two further = all_come_with P e (put d es) two.0 (further two.1)

all_come_all : (P : Known → Type 0) (ds es : List DownPart) → AllCome P ds → AllCome P es → AllCome P (parts_with_all ds es)
unfolding parts_with_all
all_come_all P [] es all more = more
all_come_all P (d ∷ ds) es all more =
    let two : AllCome P (d ∷ []) × AllCome P ds = all_come_apart P d ds all in
    all_come_all P ds (parts_with d es) two.1 (subst (AllCome P) (sym (put_is d es)) (all_come_put P d es two.0 more))

pub all_come_ordered : (P : Known → Type 0) (ds : List DownPart) → AllCome P ds → AllCome P (in_order ds)
all_come_ordered P ds all = all_come_all P ds [] all tt

-- ---- what comes stands before all else

abbrev IsLater : DownPart → Type 0
IsLater d = nat_lt 2 (down_rank d) ≡ true

-- behind a later kind all are later
abbrev LaterLast : List DownPart → Type 0
LaterLast [] = Unit {0}
LaterLast (d ∷ ds) = (nat_lt 2 (down_rank d) ≡ true → AllByRecursion IsLater ds) × LaterLast ds

none_later : (ds : List DownPart) → AllByRecursion IsLater ds → come_all (singles ds) ≡ []
none_later [] all = refl
none_later (downs.Register g ks ∷ ds) all = absurd cc
none_later (downs.Create k ∷ ds) all = absurd cc
none_later (_ ∷ ds) all = none_later ds all.1

creates_first : (ks : List Known) (ds : List DownPart) → ComeFirst ds → ComeFirst (map (λ (k : Known). downs.Create k) ks ++ ds)
creates_first [] ds first = first
creates_first (k ∷ ks) ds first = ((λ later. absurd cc), creates_first ks ds first)

first_later : (ds : List DownPart) → LaterLast ds → ComeFirst (singles ds)
first_later [] last = tt
first_later (downs.Register g ks ∷ ds) last = creates_first ks (singles ds) (first_later ds last.1)
first_later (downs.Create k ∷ ds) last = ((λ later. absurd cc), first_later ds last.1)
first_later (_ ∷ ds) last = ((λ later. none_later ds (last.0 later)), first_later ds last.1)

later_put : (d : DownPart) (es : List DownPart) → IsLater d → AllByRecursion IsLater es → AllByRecursion IsLater (put d es)
later_put d [] one all = (one, tt)
later_put d (e ∷ es) one all = by_rank (nat_lt (down_rank d) (down_rank e)) (later_put d es one all.1)
  where
    by_rank : (b : Bool) → AllByRecursion IsLater (put d es) → AllByRecursion IsLater (if b then d ∷ e ∷ es else e ∷ put d es)
    by_rank true rest = (one, all)
    by_rank false rest = (all.0, rest)

last_put : (d : DownPart) (es : List DownPart) → LaterLast es → LaterLast (put d es)
last_put d [] last = ((λ later. tt), tt)
last_put d (e ∷ es) last = by_rank (nat_lt (down_rank d) (down_rank e)) refl (last_put d es last.1)
  where
    -- a kind behind a later one is later
    further : (m n : ℕ) → nat_lt 2 m ≡ true → nat_lt m n ≡ true → nat_lt 2 n ≡ true
    further m n e d = lt-ltb 2 n (omega (arith, ltb-true 2 m e, ltb-true m n d))

    unless_before : (m n : ℕ) → nat_lt 2 n ≡ true → nat_lt m n ≡ false → nat_lt 2 m ≡ true
    unless_before m n e d = lt-ltb 2 m (omega (arith, ltb-true 2 n e, ltb-false m n d))

    by_rank : (b : Bool) → nat_lt (down_rank d) (down_rank e) ≡ b → LaterLast (put d es) → LaterLast (if b then d ∷ e ∷ es else e ∷ put d es)
    by_rank true is rest = (
      (λ later. (further (down_rank d) (down_rank e) later is, last.0 (further (down_rank d) (down_rank e) later is))),
      last,
    )
    by_rank false is rest = ((λ later. later_put d es (unless_before (down_rank d) (down_rank e) later is) (last.0 later)), rest)

last_all : (ds es : List DownPart) → LaterLast es → LaterLast (parts_with_all ds es)
unfolding parts_with_all
last_all [] es last = last
last_all (d ∷ ds) es last = last_all ds (parts_with d es) (subst LaterLast (sym (put_is d es)) (last_put d es last))

pub singles_first : (ds : List DownPart) → ComeFirst (singles (in_order ds))
singles_first ds = first_later (in_order ds) (last_all ds [] tt)
