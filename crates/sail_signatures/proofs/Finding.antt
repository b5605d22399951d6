-- The definition at the first position that passes a test is the first that does.
use Rattle.std.proofs.Common.{◌≡◌, ℕ, suc, Bool, true, false, cond, List, [], ◌∷◌, refl, sym, ap, ◌∙◌, Option, Some, None, add-one}
use Rattle.std.specs.Prelude.{find, option_map, slice_get}
use Rattle.std.specs.List.{position_from}
use Rattle.std.specs.Option.{option_or}
use Rattle.sail_types.specs.Sums.{and_then}

shifted : (t : Bool) (n : ℕ) (o : Option ℕ) → cond t (Some (suc n)) (option_map (λ m. suc m) o) ≡ option_map (λ m. suc m) (cond t (Some n) o)
shifted true n o = refl
shifted false n o = refl

-- positions that are counted from one more
further : {A : Type 0} (test : A → Bool) (at : ℕ) (xs : List A) → position_from test (suc at) xs ≡ option_map (λ n. suc n) (position_from test at xs)
further test at [] = refl
further test at (x ∷ xs) =
    ap (λ n. cond (test x) (Some (suc at)) (position_from test n xs)) (add-one (suc at))
    ∙ ap (λ o. cond (test x) (Some (suc at)) o) (further test (suc at) xs)
    ∙ shifted (test x) at (position_from test (suc at) xs)
    ∙ ap (λ n. option_map (λ m. suc m) (cond (test x) (Some at) (position_from test n xs))) (sym (add-one at))

-- there is none, or the first stands at the first position
data Found {A : Type 0} (test : A → Bool) (xs : List A) : Type 0 where
  nowhere : position_from test 0 xs ≡ None → find test xs ≡ None → Found test xs
  at : (n : ℕ) (x : A) → position_from test 0 xs ≡ Some n → slice_get xs n ≡ Some x → find test xs ≡ Some x → Found test xs

found_step : {A : Type 0} (test : A → Bool) (x : A) (xs : List A) (t : Bool) → test x ≡ t → Found test xs → Found test (x ∷ xs)
found_step test x xs true h rest =
    at 0 x (ap (λ b. cond b (Some 0) (position_from test 1 xs)) h) refl (ap (λ b. cond b (Some x) (find test xs)) h)
found_step test x xs false h (nowhere none absent) =
    nowhere (ap (λ b. cond b (Some 0) (position_from test 1 xs)) h ∙ further test 0 xs ∙ ap (option_map (λ n. suc n)) none)
    (ap (λ b. cond b (Some x) (find test xs)) h ∙ absent)
found_step test x xs false h (at n y here got first) =
    at (suc n) y (ap (λ b. cond b (Some 0) (position_from test 1 xs)) h ∙ further test 0 xs ∙ ap (option_map (λ m. suc m)) here) got
    (ap (λ b. cond b (Some x) (find test xs)) h ∙ first)

found : {A : Type 0} (test : A → Bool) (xs : List A) → Found test xs
found test [] = nowhere refl refl
found test (x ∷ xs) = found_step test x xs (test x) refl (found test xs)

found_as : {A : Type 0} (test : A → Bool) (xs : List A) → Found test xs → find test xs ≡ and_then (position_from test 0 xs) (slice_get xs)
found_as test xs (nowhere none absent) = absent ∙ sym (ap (λ o. and_then o (slice_get xs)) none)
found_as test xs (at n x here got first) = first ∙ sym (ap (λ o. and_then o (slice_get xs)) here ∙ got)

pub found_at : {A : Type 0} (test : A → Bool) (xs : List A) → find test xs ≡ and_then (position_from test 0 xs) (slice_get xs)
found_at test xs = found_as test xs (found test xs)

or_step : {A : Type 0} (test other : A → Bool) (xs : List A) → Found test xs
    → option_or (find test xs) (find other xs) ≡ and_then (option_or (position_from test 0 xs) (position_from other 0 xs)) (slice_get xs)
or_step test other xs (nowhere none absent) =
    ap (λ o. option_or o (find other xs)) absent ∙ found_at other xs
    ∙ sym (ap (λ o. and_then (option_or o (position_from other 0 xs)) (slice_get xs)) none)
or_step test other xs (at n x here got first) =
    ap (λ o. option_or o (find other xs)) first
    ∙ sym (ap (λ o. and_then (option_or o (position_from other 0 xs)) (slice_get xs)) here ∙ got)

-- likewise of the first that passes one test, or where none does, of the first that passes another
pub found_or : {A : Type 0} (test other : A → Bool) (xs : List A)
    → option_or (find test xs) (find other xs) ≡ and_then (option_or (position_from test 0 xs) (position_from other 0 xs)) (slice_get xs)
found_or test other xs = or_step test other xs (found test xs)
