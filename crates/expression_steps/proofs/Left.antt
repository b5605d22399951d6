-- What is left of a list, of which some items have been taken.
use Rattle.std.proofs.Common.{◌≡◌, ◌∙◌, ◌≤◌, ◌<◌, ◌+◌, ◌-◌, ap, refl, sym, arith, ℕ, zero, suc, add-one, Option, Some, None, is_some, IfSome, option_copied}
use Rattle.std.proofs.Common.{Bor}
use Rattle.std.proofs.Common.{List, [], ◌∷◌, ◌++◌, length, drop, take, get_or, slice_get, drop-drop, ltb, ltb-true, ltb-false}
use Rattle.std.proofs.lemmas.Option.{slice_get_past, slice_get_read}
use Rattle.call_arguments.proofs.Lists.{item_is}

behind_taken : {A : Type 0} (n : ℕ) (xs : List A) → drop n xs ≡ drop (length (take n xs)) xs
behind_taken zero xs = refl
behind_taken (suc n) [] = refl
behind_taken (suc n) (x ∷ xs) = behind_taken n xs

-- behind so many of what is left
pub left_more : {A : Type 0} (k n : ℕ) (xs : List A) → drop n (drop k xs) ≡ drop (k + length (take n (drop k xs))) xs
left_more k n xs = behind_taken n (drop k xs) ∙ drop-drop (length (take n (drop k xs))) k xs

-- ---- lists with a last item

last_at : {A : Type 0} (xs : List A) (k : ℕ) (c : A) → k + 1 ≡ length xs → c ≡ get_or xs k c → xs ≡ take k xs ++ c ∷ []
last_at [] k c count is = absurd (omega (arith, count))
last_at (x ∷ []) zero c count is = (λ j. sym is j ∷ [])
last_at (x ∷ []) (suc k) c count is = absurd (omega (arith, count))
last_at (x ∷ y ∷ xs) zero c count is = absurd (omega (arith, count))
last_at (x ∷ y ∷ xs) (suc k) c count is = ap (λ ls. x ∷ ls) (last_at (y ∷ xs) k c (omega (arith, count)) is)

ends_at : {A : Type 0} (xs : List A) (k : ℕ) (a c : A) → k + 2 ≡ length xs → a ≡ get_or xs 0 a → c ≡ get_or xs (k + 1) c
    → xs ≡ a ∷ take k (drop 1 xs) ++ c ∷ []
ends_at [] k a c count is too = absurd (omega (arith, count))
ends_at (x ∷ xs) k a c count is too =
    let last : c ≡ get_or xs k c = too ∙ (λ j. get_or (x ∷ xs) (add-one k j) c) in
    let some : k + 1 ≡ length xs = omega (arith, count) in
    (λ j. sym is j ∷ last_at xs k c some last j)

-- a first and a last, and those between
pub ends_of : {A : Type 0} (xs : List A) (a c : A) → 2 ≤ length xs → a ≡ get_or xs 0 a → c ≡ get_or xs (length xs - 1) c
    → xs ≡ a ∷ take (length xs - 2) (drop 1 xs) ++ c ∷ []
ends_of xs a c some is too =
    let e : length xs - 1 ≡ length xs - 2 + 1 = omega (arith, some) in
    let count : length xs - 2 + 2 ≡ length xs = omega (arith, some) in
    ends_at xs (length xs - 2) a c count is (too ∙ (λ j. get_or xs (e j) c))

-- the last item, as it is read
pub last_there : {A : Type 0} (xs : List A) (d : A) → 1 ≤ length xs → slice_get xs (length xs - 1) ≡ Some (get_or xs (length xs - 1) d)
last_there xs d some =
    let within : length xs - 1 < length xs = omega (arith, some) in
    slice_get_read xs (length xs) (length xs - 1) (get_or xs (length xs - 1) d) refl within (item_is xs (length xs - 1) d within)

-- what is lent of a list, if it is there
pub item_there : {A : Type 0} (xs : List A) (i : ℕ) (r : Option (Bor A)) → is_some r ≡ ltb i (length xs)
    → IfSome r (λ x. x.now ≡ get_or xs i x.now) → option_copied r ≡ slice_get xs i
item_there xs i None within is = sym (slice_get_past xs i (ltb-false i (length xs) (sym within)))
item_there xs i (Some x) within is = sym (slice_get_read xs (length xs) i x.now refl (ltb-true i (length xs) (sym within)) is)
