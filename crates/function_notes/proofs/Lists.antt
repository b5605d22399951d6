-- What is left of a list behind some of its items, and items that are read.
use Rattle.std.proofs.Common.{◌≡◌, ℕ, zero, suc, ◌+◌, ◌<◌, ◌≤◌, List, [], ◌∷◌, length, drop, get_or, sym, ap, ◌∙◌, arith, drop_of_length-le}
use Rattle.std.specs.Prelude.{Some, slice_get}
use Rattle.std.proofs.lemmas.List.{drop_more, get_or_default}

pub rest_at : {A : Type 0} (xs : List A) (k : ℕ) (x : A) → k < length xs → x ≡ get_or xs k x → drop k xs ≡ x ∷ drop (k + 1) xs
rest_at xs k x within read = drop_more xs k x within ∙ ap (λ y. y ∷ drop (k + 1) xs) (sym read)

pub none_left : {A : Type 0} (xs : List A) (k : ℕ) → length xs ≤ k → drop k xs ≡ []
none_left xs k past = drop_of_length-le xs {i = k} past

pub got_at : {A : Type 0} (xs : List A) (i : ℕ) (x : A) → i < length xs → x ≡ get_or xs i x → slice_get xs i ≡ Some x
got_at [] i x lt at = absurd (omega arith)
got_at (y ∷ ys) zero x lt at = ap Some (sym at)
got_at (y ∷ ys) (suc i) x lt at = got_at ys i x (omega arith) at

-- an item that is read with another one in hand
pub got_again : {A : Type 0} (xs : List A) (i : ℕ) (d : A) → i < length xs → get_or xs i d ≡ get_or xs i (get_or xs i d)
got_again xs i d lt = get_or_default xs i d (get_or xs i d) lt

pub got_there : {A : Type 0} (xs : List A) (i : ℕ) (d : A) → i < length xs → slice_get xs i ≡ Some (get_or xs i d)
got_there xs i d lt = got_at xs i (get_or xs i d) lt (got_again xs i d lt)
