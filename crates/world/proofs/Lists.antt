-- Lists: maps that agree, maps in place, lists of numbers, and what a cut leaves.
use Rattle.std.proofs.Common.{◌≡◌, ◌≢◌, ℕ, zero, suc, ◌+◌, ◌<◌, ◌≤◌, List, [], ◌∷◌, ◌++◌, length, map, take, drop, get_or, set, Option, None, Some, refl, sym, ap, ap₂, ◌∙◌, get_or-drop, arith}
use Rattle.std.proofs.lemmas.List.{get_or-map, take_more, take_more_set, map-append}
use Rattle.std.proofs.Math.Seq.{take-append_seam}
use Rattle.protocol.specs.Start.{numbers}

-- a list with one item behind it, if there is one
abbrev pub with_one : {A : Type 0} → Option A → List A → List A
with_one None xs = xs
with_one (Some x) xs = xs ++ x ∷ []

pub map-same : {A B : Type 0} (f g : A → B) → ((x : A) → f x ≡ g x) → (xs : List A) → map f xs ≡ map g xs
map-same f g same [] = refl
map-same f g same (x ∷ xs) = cc (same x, map-same f g same xs)

-- lists that agree from a place on have one element there
pub get_or-same : {A : Type 0} (i : ℕ) (xs ys : List A) (d : A) → drop i xs ≡ drop i ys → get_or xs i d ≡ get_or ys i d
get_or-same i xs ys d same =
    let at : i + 0 ≡ i = omega arith in
    rw at at (sym (get_or-drop i xs 0 d) ∙ ap (λ l. get_or l 0 d) same ∙ get_or-drop i ys 0 d)

-- one element more is mapped in place
pub mapped_more : {A : Type 0} (f : A → A) (i : ℕ) (xs ys : List A) (x y : A) → i < length xs → i < length ys → y ≡ f (get_or xs i x)
    → take i xs ≡ map f (take i ys) → drop i xs ≡ drop i ys → take (i + 1) (set xs i y) ≡ map f (take (i + 1) ys)
mapped_more f i xs ys x y in_xs in_ys made done rest =
    let item : y ≡ f (get_or ys i x) = made ∙ ap f (get_or-same i xs ys x rest) in
    take_more_set xs i y in_xs
    ∙ ap₂ (λ l z. l ++ z ∷ []) done item
    ∙ sym (map-append f (take i ys) (get_or ys i x ∷ []))
    ∙ ap (map f) (sym (take_more ys i x in_ys))

numbers-suc : (k n : ℕ) → numbers k (suc n) ≡ numbers k n ++ (k + n) ∷ []
numbers-suc k zero = let e : k ≡ k + 0 = omega arith in ap (λ m. m ∷ []) e
numbers-suc k (suc n) = let e : suc k + n ≡ k + suc n = omega arith in ap (λ l. k ∷ l) (numbers-suc (suc k) n ∙ ap (λ m. numbers (suc k) n ++ m ∷ []) e)

-- a map over numbers from 0 on goes on by one
pub map-numbers_more : {A : Type 0} (f : ℕ → A) (n : ℕ) (xs : List A) (x : A) → xs ≡ map f (numbers 0 n) → x ≡ f n → xs ++ x ∷ [] ≡ map f (numbers 0 (n + 1))
map-numbers_more f n xs x so_far next =
    let one : n + 1 ≡ suc n = omega arith in
    let at : 0 + n ≡ n = omega arith in
    let more : map f (numbers 0 (n + 1)) ≡ map f (numbers 0 n) ++ f n ∷ [] =
    ap (λ m. map f (numbers 0 m)) one ∙ ap (map f) (numbers-suc 0 n ∙ ap (λ m. numbers 0 n ++ m ∷ []) at) ∙ map-append f (numbers 0 n) (n ∷ []) in
    ap₂ (λ l z. l ++ z ∷ []) so_far next ∙ sym more

pub length-numbers : (k n : ℕ) → length (numbers k n) ≡ n
length-numbers k zero = refl
length-numbers k (suc n) = ap suc (length-numbers (suc k) n)

get_or-numbers : (k n i d : ℕ) → i < n → get_or (numbers k n) i d ≡ k + i
get_or-numbers k zero i d below = absurd (omega arith)
get_or-numbers k (suc n) zero d below = omega arith
get_or-numbers k (suc n) (suc i) d below =
    let less : i < n = omega arith in
    let e : suc k + i ≡ k + suc i = omega arith in
    get_or-numbers (suc k) n i d less ∙ e

-- maps that agree on some numbers
map-numbers_same : {A : Type 0} (f g : ℕ → A) (k n : ℕ) → ((p : ℕ) → k ≤ p → f p ≡ g p) → map f (numbers k n) ≡ map g (numbers k n)
map-numbers_same f g k zero same = refl
map-numbers_same f g k (suc n) same =
    let rest : map f (numbers (suc k) n) ≡ map g (numbers (suc k) n) = map-numbers_same f g (suc k) n (λ p above. same p (omega arith)) in
    ap₂ (λ x l. x ∷ l) (same k (omega arith)) rest

-- a map in which the value of one number is another
pub set-numbers : {A : Type 0} (f g : ℕ → A) (k n i q : ℕ) → q ≡ k + i → ((p : ℕ) → p ≢ q → g p ≡ f p) → set (map f (numbers k n)) i (g q) ≡ map g (numbers k n)
set-numbers f g k zero i q at others = refl
set-numbers f g k (suc n) zero q at others =
    let here : q ≡ k = omega arith in
    let rest : map f (numbers (suc k) n) ≡ map g (numbers (suc k) n) = map-numbers_same f g (suc k) n (λ p above. sym (others p (omega arith))) in
    ap₂ (λ x l. x ∷ l) (ap g here) rest
set-numbers f g k (suc n) (suc i) q at others =
    let further : q ≡ suc k + i = omega arith in
    let other : k ≢ q = omega arith in
    ap₂ (λ x l. x ∷ l) (sym (others k other)) (set-numbers f g (suc k) n i q further others)

-- an element of a map over numbers from 0 on
pub get_or-map-numbers : {A : Type 0} (f : ℕ → A) (n i : ℕ) (d : A) → i < n → get_or (map f (numbers 0 n)) i d ≡ f i
get_or-map-numbers f n i d below =
    let within : i < length (numbers 0 n) = rw length-numbers below in
    let at : 0 + i ≡ i = omega arith in
    get_or-map f (numbers 0 n) i 0 d within ∙ ap f (get_or-numbers 0 n i 0 below ∙ at)

-- what begins behind a cut is within the list, and ends one place further on
pub cut_within : {A : Type 0} (n : ℕ) (xs : List A) (y : A) (ys : List A) → drop n xs ≡ y ∷ ys → n < length xs
cut_within zero [] y ys e = cc
cut_within (suc n) [] y ys e = cc
cut_within zero (x ∷ xs) y ys e = omega arith
cut_within (suc n) (x ∷ xs) y ys e = let within : n < length xs = cut_within n xs y ys e in omega arith

pub cut_more : {A : Type 0} (n : ℕ) (xs : List A) (y : A) (ys : List A) → drop n xs ≡ y ∷ ys → drop (suc n) xs ≡ ys
cut_more zero [] y ys e = cc
cut_more (suc n) [] y ys e = cc
cut_more zero (x ∷ xs) y ys e = cc
cut_more (suc n) (x ∷ xs) y ys e = cut_more n xs y ys e

-- a list that is written over one of its own length
pub written_over : {A : Type 0} (n : ℕ) (xs ys : List A) → length xs ≡ n → take n (xs ++ ys) ≡ xs
written_over n xs ys len = ap (λ m. take m (xs ++ ys)) (sym len) ∙ take-append_seam xs ys

-- an item behind a cut list
pub cut_with : {A : Type 0} (n : ℕ) (xs : List A) (y : A) → n ≤ length xs → drop n (xs ++ y ∷ []) ≡ drop n xs ++ y ∷ []
cut_with zero xs y le = refl
cut_with (suc n) [] y le = absurd (omega (arith, le))
cut_with (suc n) (x ∷ xs) y le = cut_with n xs y (omega (arith, le))

-- a list by numbers in which one is another
pub set_one : {A : Type 0} (f g : ℕ → A) (n p : ℕ) (v : A) → v ≡ g p → ((q : ℕ) → q ≢ p → g q ≡ f q) → set (map f (numbers 0 n)) p v ≡ map g (numbers 0 n)
set_one f g n p v here others = ap (set (map f (numbers 0 n)) p) here ∙ set-numbers f g 0 n p p (omega arith) others

pub same_numbers : {A : Type 0} (f g : ℕ → A) (n : ℕ) → ((q : ℕ) → q < n → f q ≡ g q) → map f (numbers 0 n) ≡ map g (numbers 0 n)
same_numbers f g n same = from 0 n (λ q lo hi. same q (omega (arith, hi)))
  where
    from : (k m : ℕ) → ((q : ℕ) → k ≤ q → q < k + m → f q ≡ g q) → map f (numbers k m) ≡ map g (numbers k m)
    from k zero at = refl
    from k (suc m) at = ap₂ (λ x xs. x ∷ xs) (at k (omega arith) (omega arith)) (from (suc k) m (λ q lo hi. at q (omega (arith, lo)) (omega (arith, hi))))

-- what stands behind a front, and another in its place
pub at_front : {A : Type 0} (front : List A) (x : A) (rest : List A) (d : A) → get_or (front ++ x ∷ rest) (length front) d ≡ x
at_front [] x rest d = refl
at_front (y ∷ front) x rest d = at_front front x rest d

pub set_front : {A : Type 0} (front : List A) (x y : A) (rest : List A) → set (front ++ x ∷ rest) (length front) y ≡ front ++ y ∷ rest
set_front [] x y rest = refl
set_front (z ∷ front) x y rest = ap (λ xs. z ∷ xs) (set_front front x y rest)

pub append_one : {A : Type 0} (front : List A) (x : A) (rest : List A) → front ++ x ∷ rest ≡ (front ++ x ∷ []) ++ rest
append_one [] x rest = refl
append_one (y ∷ front) x rest = ap (λ xs. y ∷ xs) (append_one front x rest)

pub longer : {A : Type 0} (front : List A) (x : A) → suc (length front) ≡ length (front ++ x ∷ [])
longer [] x = refl
longer (y ∷ front) x = ap suc (longer front x)
