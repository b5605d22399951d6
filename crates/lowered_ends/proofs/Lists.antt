-- Lists as the code has them: with a first item and others, and what is found in them.
use Rattle.std.proofs.Common.{◌≡◌, ◌∙◌, ◌≤◌, ◌<◌, ◌+◌, ◌-◌, suc, List, [], ◌∷◌, ◌++◌, length, drop, take, get_or, refl, sym, ap, arith}
use Rattle.std.specs.Prelude.{slice_index_or}

take_whole : {A : Type 0} (xs : List A) → take (length xs) xs ≡ xs
take_whole [] = refl
take_whole (x ∷ xs) = ap (λ ys. x ∷ ys) (take_whole xs)

-- the others of a list with a first item, as the code has them
abbrev pub others : {A : Type 0} → List A → List A
others xs = take (length xs - 1) (drop 1 xs)

pub others_of : {A : Type 0} (x : A) (xs : List A) → others (x ∷ xs) ≡ xs
others_of x xs = let e : length (x ∷ xs) - 1 ≡ length xs = omega arith in ap (λ n. take n xs) e ∙ take_whole xs

pub first_of : {A : Type 0} (xs : List A) (x : A) → 1 ≤ length xs → x ≡ get_or xs 0 x → xs ≡ x ∷ others xs
first_of [] x some is = absurd (omega arith)
first_of (y ∷ xs) x some is = λ i. sym is i ∷ sym (others_of y xs) i

pub none_of : {A : Type 0} (xs : List A) → length xs < 1 → xs ≡ []
none_of [] few = refl
none_of (x ∷ xs) few = absurd (omega arith)

pub one_of : {A : Type 0} (xs : List A) (x : A) → 1 ≤ length xs → length xs < 2 → x ≡ get_or xs 0 x → xs ≡ x ∷ []
one_of [] x some few is = absurd (omega arith)
one_of (y ∷ []) x some few is = ap (λ z. z ∷ []) (sym is)
one_of (y ∷ z ∷ xs) x some few is = absurd (omega arith)

pub two_of : {A : Type 0} (xs : List A) (x y : A) → 2 ≤ length xs → length xs < 3 → x ≡ get_or xs 0 x → y ≡ get_or xs 1 y → xs ≡ x ∷ y ∷ []
two_of [] x y some few a b = absurd (omega arith)
two_of (p ∷ []) x y some few a b = absurd (omega arith)
two_of (p ∷ q ∷ []) x y some few a b = λ i. sym a i ∷ sym b i ∷ []
two_of (p ∷ q ∷ r ∷ xs) x y some few a b = absurd (omega arith)

pub three_of : {A : Type 0} (xs : List A) (x y z : A) → 3 ≤ length xs → length xs < 4 → x ≡ get_or xs 0 x → y ≡ get_or xs 1 y → z ≡ get_or xs 2 z
    → xs ≡ x ∷ y ∷ z ∷ []
three_of [] x y z some few a b c = absurd (omega arith)
three_of (p ∷ []) x y z some few a b c = absurd (omega arith)
three_of (p ∷ q ∷ []) x y z some few a b c = absurd (omega arith)
three_of (p ∷ q ∷ r ∷ []) x y z some few a b c = λ i. sym a i ∷ sym b i ∷ sym c i ∷ []
three_of (p ∷ q ∷ r ∷ s ∷ xs) x y z some few a b c = absurd (omega arith)

pub four_of : {A : Type 0} (xs : List A) (x y z u : A) → 4 ≤ length xs → length xs < 5 → x ≡ get_or xs 0 x → y ≡ get_or xs 1 y → z ≡ get_or xs 2 z
    → u ≡ get_or xs 3 u → xs ≡ x ∷ y ∷ z ∷ u ∷ []
four_of [] x y z u some few a b c d = absurd (omega arith)
four_of (p ∷ []) x y z u some few a b c d = absurd (omega arith)
four_of (p ∷ q ∷ []) x y z u some few a b c d = absurd (omega arith)
four_of (p ∷ q ∷ r ∷ []) x y z u some few a b c d = absurd (omega arith)
four_of (p ∷ q ∷ r ∷ s ∷ []) x y z u some few a b c d = λ i. sym a i ∷ sym b i ∷ sym c i ∷ sym d i ∷ []
four_of (p ∷ q ∷ r ∷ s ∷ t ∷ xs) x y z u some few a b c d = absurd (omega arith)

-- behind two items, as the code has them
abbrev pub behind_two : {A : Type 0} → List A → List A
behind_two xs = take (length xs - 2) (drop 2 xs)

pub two_and : {A : Type 0} (xs : List A) (x y : A) → 2 ≤ length xs → x ≡ get_or xs 0 x → y ≡ get_or xs 1 y → xs ≡ x ∷ y ∷ behind_two xs
two_and [] x y some a b = absurd (omega arith)
two_and (p ∷ []) x y some a b = absurd (omega arith)
two_and (p ∷ q ∷ xs) x y some a b = λ i. sym a i ∷ sym b i ∷ sym same i
  where
    same : behind_two (p ∷ q ∷ xs) ≡ xs
    same = let e : length (p ∷ q ∷ xs) - 2 ≡ length xs = omega arith in ap (λ n. take n xs) e ∙ take_whole xs

-- all but the last, as the code has them
abbrev pub but_last : {A : Type 0} → List A → List A
but_last xs = take (length xs - 1) xs

pub last_of : {A : Type 0} (xs : List A) (x : A) → 1 ≤ length xs → x ≡ get_or xs (length xs - 1) x → xs ≡ but_last xs ++ x ∷ []
last_of [] x some is = absurd (omega arith)
last_of (y ∷ []) x some is = ap (λ z. z ∷ []) (sym is)
last_of (y ∷ z ∷ xs) x some is =
    let e : length (y ∷ z ∷ xs) - 1 ≡ suc (length (z ∷ xs) - 1) = omega arith in
    let there = last_of (z ∷ xs) x (omega arith) (is ∙ ap (λ k. get_or (y ∷ z ∷ xs) k x) e) in
    ap (λ us. y ∷ us) there ∙ ap (λ k. take k (y ∷ z ∷ xs) ++ x ∷ []) (sym e)

one_more : {A : Type 0} (us : List A) (x : A) → length (us ++ x ∷ []) ≡ length us + 1
one_more [] x = refl
one_more (u ∷ us) x = let h : length (us ++ x ∷ []) ≡ length us + 1 = one_more us x in omega (arith, h)

pub last_count : {A : Type 0} (xs : List A) (x : A) → 1 ≤ length xs → x ≡ get_or xs (length xs - 1) x → length xs ≡ length (but_last xs) + 1
last_count {A} xs x some is = ap (λ (us : List A). length us) (last_of xs x some is) ∙ one_more (but_last xs) x

-- of items that are copied
pub first_at : {A : Type 0} (xs : List A) (d : A) → 1 ≤ length xs → xs ≡ slice_index_or xs 0 d ∷ others xs
first_at [] d some = absurd (omega (arith, some))
first_at (y ∷ ys) d some = λ i. y ∷ sym (others_of y ys) i

pub others_many : {A : Type 0} (xs : List A) → 1 ≤ length xs → length xs ≡ 1 + length (others xs)
others_many [] some = absurd (omega arith)
others_many {A} (x ∷ xs) some = let e : length (others (x ∷ xs)) ≡ length xs = ap (λ (us : List A). length us) (others_of x xs) in omega (arith, e)
