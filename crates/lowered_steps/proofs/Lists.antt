-- Lists as the code has them: with a first item and others, and what is found in them.
use Rattle.std.proofs.Common.{◌≡◌, ◌∙◌, ◌≤◌, ◌<◌, ◌-◌, ℕ, suc, zero, true, false, List, [], ◌∷◌, length, drop, take, get_or, refl, sym}
use Rattle.std.proofs.Common.{ap, arith}
use Rattle.std.specs.Prelude.{Some, None, nat_lt, slice_get, slice_index_or}
use Rattle.std.proofs.lemmas.Bool.Decides.{nat_tests}

take_whole : {A : Type 0} (xs : List A) → take (length xs) xs ≡ xs
take_whole [] = refl
take_whole (x ∷ xs) = ap (λ ys. x ∷ ys) (take_whole xs)

-- the others of a list with a first item, as the code has them
abbrev pub others : {A : Type 0} → List A → List A
others xs = take (length xs - 1) (drop 1 xs)

pub others_of : {A : Type 0} (x : A) (xs : List A) → others (x ∷ xs) ≡ xs
others_of x xs = let e : length (x ∷ xs) - 1 ≡ length xs = omega arith in ap (λ n. take n xs) e ∙ take_whole xs

pub first_of : {A : Type 0} (xs : List A) (x : A) → 1 ≤ length xs → x ≡ get_or xs 0 x → xs ≡ x ∷ others xs
first_of [] x some is = absurd (omega arith)
first_of (y ∷ xs) x some is = λ i. sym is i ∷ sym (others_of y xs) i

pub none_of : {A : Type 0} (xs : List A) → length xs < 1 → xs ≡ []
none_of [] few = refl
none_of (x ∷ xs) few = absurd (omega arith)

pub one_of : {A : Type 0} (xs : List A) (x : A) → 1 ≤ length xs → length xs < 2 → x ≡ get_or xs 0 x → xs ≡ x ∷ []
one_of [] x some few is = absurd (omega arith)
one_of (y ∷ []) x some few is = ap (λ z. z ∷ []) (sym is)
one_of (y ∷ z ∷ xs) x some few is = absurd (omega arith)

-- the first of those that are copied
pub head_of : {A : Type 0} (xs : List A) (d : A) → 1 ≤ length xs → xs ≡ get_or xs 0 d ∷ others xs
head_of [] d some = absurd (omega arith)
head_of (y ∷ xs) d some = λ i. y ∷ sym (others_of y xs) i

-- the only one of those that are copied
pub only_of : {A : Type 0} (xs : List A) (d : A) → 1 ≤ length xs → length xs < 2 → xs ≡ get_or xs 0 d ∷ []
only_of [] d some few = absurd (omega arith)
only_of (y ∷ []) d some few = refl
only_of (y ∷ z ∷ xs) d some few = absurd (omega arith)

pub others_many : {A : Type 0} (xs : List A) → 2 ≤ length xs → 1 ≤ length (others xs)
others_many [] many = absurd (omega arith)
others_many (y ∷ xs) many = omega (arith, ap length (others_of y xs), many)

-- ---- items that are looked up

lt_true : (a b : ℕ) → true ≡ nat_lt a b → a < b
lt_true a b h = grind (arith, nat_tests)

pub lt_false : (a b : ℕ) → false ≡ nat_lt a b → b ≤ a
lt_false a b h = grind (arith, nat_tests)

got_within : {A : Type 0} (xs : List A) (i : ℕ) (x : A) → i < length xs → x ≡ slice_index_or xs i x → slice_get xs i ≡ Some x
got_within [] i x lt is = absurd (omega arith)
got_within (y ∷ xs) zero x lt is = ap (λ z. Some z) (sym is)
got_within (y ∷ xs) (suc i) x lt is = got_within xs i x (omega (arith, lt)) is

pub got_item : {A : Type 0} (xs : List A) (i : ℕ) (x : A) → true ≡ nat_lt i (length xs) → x ≡ slice_index_or xs i x → slice_get xs i ≡ Some x
got_item xs i x lt is = got_within xs i x (lt_true i (length xs) lt) is

pub got_none : {A : Type 0} (xs : List A) (i : ℕ) → false ≡ nat_lt i (length xs) → slice_get xs i ≡ None
got_none xs i lt = past xs i (lt_false i (length xs) lt)
  where
    past : {B : Type 0} (ys : List B) (j : ℕ) → length ys ≤ j → slice_get ys j ≡ None
    past [] j le = refl
    past (y ∷ ys) zero le = absurd (omega arith)
    past (y ∷ ys) (suc j) le = past ys j (omega (arith, le))
