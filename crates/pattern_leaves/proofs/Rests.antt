-- Lists as the code has them: of one or two, and what is left of them.
use Rattle.std.proofs.Common.{◌≡◌, ◌≤◌, ◌<◌, ◌+◌, ℕ, suc, zero, List, [], ◌∷◌, length, drop, get_or, slice_get, refl, sym, ap, ◌∙◌, arith}
use Rattle.std.proofs.Common.{Some, None, add-one}
use Rattle.std.proofs.lemmas.List.{drop_more}

-- ---- lists of one or two

pub one_of : {A : Type 0} (xs : List A) (x : A) → 1 ≤ length xs → length xs < 2 → x ≡ get_or xs 0 x → xs ≡ x ∷ []
one_of [] x some few is = absurd (omega arith)
one_of (y ∷ []) x some few is = ap (λ z. z ∷ []) (sym is)
one_of (y ∷ z ∷ xs) x some few is = absurd (omega arith)

pub two_of : {A : Type 0} (xs : List A) (x y : A) → 2 ≤ length xs → length xs < 3 → x ≡ get_or xs 0 x → y ≡ get_or xs 1 y → xs ≡ x ∷ y ∷ []
two_of [] x y some few is too = absurd (omega arith)
two_of (a ∷ []) x y some few is too = absurd (omega arith)
two_of (a ∷ b ∷ []) x y some few is too = λ i. sym is i ∷ sym too i ∷ []
two_of (a ∷ b ∷ c ∷ xs) x y some few is too = absurd (omega arith)

-- ---- what is left of a list from an index on

pub rest_is : {A : Type 0} (xs : List A) (k : ℕ) (x : A) → k < length xs → x ≡ get_or xs k x → drop k xs ≡ x ∷ drop (k + 1) xs
rest_is xs k x within is = drop_more xs k x within ∙ ap (λ y. y ∷ drop (k + 1) xs) (sym is)

got_rest : {A : Type 0} (xs : List A) (k : ℕ) (x : A) → slice_get xs k ≡ Some x → drop k xs ≡ x ∷ drop (suc k) xs
got_rest [] zero x is = absurd (cc)
got_rest [] (suc k) x is = absurd (cc)
got_rest (y ∷ xs) zero x is = let same : y ≡ x = cc in ap (λ z. z ∷ xs) same
got_rest (y ∷ xs) (suc k) x is = got_rest xs k x is

pub got_is : {A : Type 0} (xs : List A) (k : ℕ) (x : A) → slice_get xs k ≡ Some x → drop k xs ≡ x ∷ drop (k + 1) xs
got_is xs k x is = got_rest xs k x is ∙ ap (λ n. x ∷ drop n xs) (sym (add-one k))

pub none_left : {A : Type 0} (xs : List A) (k : ℕ) → slice_get xs k ≡ None → drop k xs ≡ []
none_left [] zero is = refl
none_left [] (suc k) is = refl
none_left (y ∷ xs) zero is = absurd (cc)
none_left (y ∷ xs) (suc k) is = none_left xs k is

pub all_behind : {A : Type 0} (xs : List A) (k : ℕ) → length xs ≤ k → drop k xs ≡ []
all_behind [] zero past = refl
all_behind [] (suc k) past = refl
all_behind (x ∷ xs) zero past = absurd (omega arith)
all_behind (x ∷ xs) (suc k) past = all_behind xs k (omega arith)
