-- Lists, item by item.
use Rattle.std.proofs.Common.{◌≡◌, ◌∙◌, ap, sym, ℕ, zero, suc, refl, ◌+◌, ◌<◌, ◌≤◌, List, [], ◌∷◌, ◌++◌}
use Rattle.std.proofs.Common.{length, drop, get_or, append_assoc, append-nil, arith, subst}
use Rattle.std.specs.Prelude.{IfOk, OnOk, Result}
use Rattle.std.specs.declared.alloc.AllocError.{AllocError}
use Rattle.std.proofs.lemmas.List.{drop_more, drop_all}

pub rest_is : {A : Type 0} (xs : List A) (k : ℕ) (x : A) → k < length xs → x ≡ get_or xs k x → drop k xs ≡ x ∷ drop (k + 1) xs
rest_is xs k x within is = drop_more xs k x within ∙ ap (λ y. y ∷ drop (k + 1) xs) (sym is)

-- an item that is there is the same whatever stands for one that isn't
pub item_is : {A : Type 0} (xs : List A) (k : ℕ) (d : A) → k < length xs → get_or xs k d ≡ get_or xs k (get_or xs k d)
item_is [] k d h = absurd (omega (arith, h))
item_is (x ∷ xs) zero d h = refl
item_is (x ∷ xs) (suc k) d h = item_is xs k d (omega (arith, h))

pub none_left : {A : Type 0} (xs : List A) (k : ℕ) → length xs ≤ k → drop k xs ≡ []
none_left xs k past = drop_all k xs past

pub drop_none : (A : Type 0) (k : ℕ) → ◌≡◌ {A = List A} (drop k []) []
drop_none A zero = refl
drop_none A (suc k) = refl

-- what a call gives
pub found : {A : Type 0} (r : Result A AllocError) (x y : A) → IfOk r (λ made. made ≡ x) → x ≡ y → IfOk r (λ made. made ≡ y)
found {A} r x y h is = subst (λ (z : A). IfOk r (λ made. made ≡ z)) is h

pub left : {A B : Type 0} (r : Result A AllocError) (now x y : B) → OnOk r (now ≡ x) → x ≡ y → OnOk r (now ≡ y)
left {A} {B} r now x y h is = subst (λ (z : B). OnOk r (now ≡ z)) is h

-- one more, and what the rest makes
pub pushed_more : {A : Type 0} (before now : List A) (x : A) (rest whole all : List A)
    → now ≡ before ++ x ∷ [] → whole ≡ x ∷ rest → before ++ whole ≡ all → now ++ rest ≡ all
pushed_more before now x rest whole all pushed opens total =
    ap (λ l. l ++ rest) pushed ∙ append_assoc before (x ∷ []) rest ∙ ap (λ l. before ++ l) (sym opens) ∙ total

pub pushed_all : {A : Type 0} (made whole all : List A) → whole ≡ [] → made ++ whole ≡ all → made ≡ all
pushed_all made whole all none total = sym (append-nil made) ∙ ap (λ l. made ++ l) (sym none) ∙ total
