-- Lists of three and four, and lists with a first item.
use Rattle.std.proofs.Common.{◌≡◌, ◌∙◌, ◌≤◌, ◌<◌, ◌-◌, List, [], ◌∷◌, length, drop, take, get_or, refl, sym, ap, arith}

pub three_of : {A : Type 0} (xs : List A) (x y z : A) → 3 ≤ length xs → length xs < 4 → x ≡ get_or xs 0 x → y ≡ get_or xs 1 y → z ≡ get_or xs 2 z
    → xs ≡ x ∷ y ∷ z ∷ []
three_of [] x y z some few a b c = absurd (omega arith)
three_of (p ∷ []) x y z some few a b c = absurd (omega arith)
three_of (p ∷ q ∷ []) x y z some few a b c = absurd (omega arith)
three_of (p ∷ q ∷ r ∷ []) x y z some few a b c = λ i. sym a i ∷ sym b i ∷ sym c i ∷ []
three_of (p ∷ q ∷ r ∷ s ∷ xs) x y z some few a b c = absurd (omega arith)

pub four_of : {A : Type 0} (xs : List A) (x y z u : A) → 4 ≤ length xs → length xs < 5 → x ≡ get_or xs 0 x → y ≡ get_or xs 1 y → z ≡ get_or xs 2 z
    → u ≡ get_or xs 3 u → xs ≡ x ∷ y ∷ z ∷ u ∷ []
four_of [] x y z u some few a b c d = absurd (omega arith)
four_of (p ∷ []) x y z u some few a b c d = absurd (omega arith)
four_of (p ∷ q ∷ []) x y z u some few a b c d = absurd (omega arith)
four_of (p ∷ q ∷ r ∷ []) x y z u some few a b c d = absurd (omega arith)
four_of (p ∷ q ∷ r ∷ s ∷ []) x y z u some few a b c d = λ i. sym a i ∷ sym b i ∷ sym c i ∷ sym d i ∷ []
four_of (p ∷ q ∷ r ∷ s ∷ t ∷ xs) x y z u some few a b c d = absurd (omega arith)

-- ---- a first item, and others

pub take_whole : {A : Type 0} (xs : List A) → take (length xs) xs ≡ xs
take_whole [] = refl
take_whole (x ∷ xs) = ap (λ ys. x ∷ ys) (take_whole xs)

-- the others of a list with a first item, as the code has them
abbrev pub others : {A : Type 0} → List A → List A
others xs = take (length xs - 1) (drop 1 xs)

pub others_of : {A : Type 0} (x : A) (xs : List A) → others (x ∷ xs) ≡ xs
others_of x xs = let e : length (x ∷ xs) - 1 ≡ length xs = omega arith in ap (λ n. take n xs) e ∙ take_whole xs

pub first_of : {A : Type 0} (xs : List A) (x : A) → 1 ≤ length xs → x ≡ get_or xs 0 x → xs ≡ x ∷ others xs
first_of [] x some is = absurd (omega arith)
first_of (y ∷ xs) x some is = λ i. sym is i ∷ sym (others_of y xs) i

pub none_of : {A : Type 0} (xs : List A) → length xs < 1 → xs ≡ []
none_of [] few = refl
none_of (x ∷ xs) few = absurd (omega arith)

pub fewer : {A : Type 0} (xs : List A) → 1 ≤ length xs → length (others xs) < length xs
fewer [] some = absurd (omega arith)
fewer (x ∷ xs) some = let e : length (others (x ∷ xs)) ≡ length xs = ap length (others_of x xs) in omega (arith, e)
