-- Lists: maps in place, and what is written over.
use Rattle.std.proofs.Common.{◌≡◌, ℕ, ◌+◌, ◌<◌, ◌≤◌, List, [], ◌∷◌, ◌++◌, length, map, take, drop, get_or, set, sym, ap, ap₂, ◌∙◌, get_or-drop, drop-set-lt, arith}
use Rattle.std.proofs.lemmas.Grind.{drop_more_same}
use Rattle.std.proofs.lemmas.List.{take_all, take_more, take_more_set, map-append}
use Rattle.std.proofs.Math.Seq.{take-append_seam}

-- lists that agree from a place on have one element there
pub get_or-same : {A : Type 0} (i : ℕ) (xs ys : List A) (d : A) → drop i xs ≡ drop i ys → get_or xs i d ≡ get_or ys i d
get_or-same i xs ys d same =
    let at : i + 0 ≡ i = omega arith in
    rw at at (sym (get_or-drop i xs 0 d) ∙ ap (λ l. get_or l 0 d) same ∙ get_or-drop i ys 0 d)

-- one element more is mapped in place
pub mapped_more : {A : Type 0} (f : A → A) (i : ℕ) (xs ys : List A) (d y : A) → i < length xs → i < length ys → y ≡ f (get_or xs i d)
    → take i xs ≡ map f (take i ys) → drop i xs ≡ drop i ys → take (i + 1) (set xs i y) ≡ map f (take (i + 1) ys)
mapped_more f i xs ys d y in_xs in_ys made done rest =
    let item : y ≡ f (get_or ys i d) = made ∙ ap f (get_or-same i xs ys d rest) in
    take_more_set xs i y in_xs
    ∙ ap₂ (λ l z. l ++ z ∷ []) done item
    ∙ sym (map-append f (take i ys) (get_or ys i d ∷ []))
    ∙ ap (map f) (sym (take_more ys i d in_ys))

-- a list that is written over one of its own length
pub written_over : {A : Type 0} (n : ℕ) (xs ys : List A) → length xs ≡ n → take n (xs ++ ys) ≡ xs
written_over n xs ys len = ap (λ m. take m (xs ++ ys)) (sym len) ∙ take-append_seam xs ys

-- xs is ys, of which f was done to the first i
pub record MappedTo {A : Type 0} (f : A → A) (i : ℕ) (xs ys : List A) : Type 0 where
  pub done : take i xs ≡ map f (take i ys)
  pub rest : drop i xs ≡ drop i ys

-- f is done to one more
pub mapped_next : {A : Type 0} (f : A → A) (i : ℕ) (xs ys : List A) (d y : A) → length xs ≡ length ys → i < length ys → y ≡ f (get_or xs i d) → MappedTo f i xs ys → MappedTo f (i + 1) (set xs i y) ys
mapped_next f i xs ys d y len within made so_far = record {
  done = mapped_more f i xs ys d y (omega arith) within made so_far.done so_far.rest;
  rest = drop-set-lt (i + 1) xs i y (omega arith) ∙ drop_more_same xs ys i so_far.rest;
}

-- f was done to all
pub mapped_all : {A : Type 0} (f : A → A) (i : ℕ) (xs ys : List A) → length xs ≡ length ys → length ys ≤ i → MappedTo f i xs ys → xs ≡ map f ys
mapped_all f i xs ys len past so_far =
    let within : length xs ≤ i = omega arith in
    sym (take_all i xs within) ∙ so_far.done ∙ ap (map f) (take_all i ys past)

-- a whole list was written over by a map of it
pub overwritten : {A : Type 0} (f : A → A) (n : ℕ) (value items slice new rest : List A) → length new ≡ n → new ≡ map f slice → slice ≡ items → items ≡ value → take n (new ++ rest) ≡ map f value
overwritten f n value items slice new rest len done same view = written_over n new rest len ∙ done ∙ ap (map f) (same ∙ view)
