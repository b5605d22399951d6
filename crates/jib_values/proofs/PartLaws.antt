-- Parts of lists and words.
use Rattle.std.proofs.Common.{◌≡◌, ℕ, zero, suc, ◌+◌, ◌-◌, ◌<◌, ◌≤◌, List, [], ◌∷◌, ◌++◌, length, take, drop, Option, Some, None, refl, sym, ap, ◌∙◌}
use Rattle.std.proofs.Common.{arith, Bool, false}
use Rattle.std.proofs.Common.{length-drop}
use Rattle.std.specs.Prelude.{slice_get, slice_set, slice_index_or}
use Rattle.sail_types.specs.declared.values.Value.{Value}

past_of : {A : Type 0} (xs : List A) (i : ℕ) → length xs ≤ i → slice_get xs i ≡ None
past_of [] i h = refl
past_of (x ∷ xs) zero h = absurd (omega (arith, h))
past_of (x ∷ xs) (suc i) h = past_of xs i (omega (arith, h))

unset_of : {A : Type 0} (xs : List A) (i : ℕ) (v : A) → length xs ≤ i → slice_set xs i v ≡ xs
unset_of [] i v h = refl
unset_of (x ∷ xs) zero v h = absurd (omega (arith, h))
unset_of (x ∷ xs) (suc i) v h = ap (λ ys. x ∷ ys) (unset_of xs i v (omega (arith, h)))

pub past : (xs : List Value) (i : ℕ) → length xs ≤ i → slice_get xs i ≡ None
past xs i h = past_of xs i h

pub unset : (xs : List Value) (i : ℕ) (v : Value) → length xs ≤ i → slice_set xs i v ≡ xs
unset xs i v h = unset_of xs i v h

pub bit_past : (xs : List Bool) (i : ℕ) → length xs ≤ i → slice_get xs i ≡ None
bit_past xs i h = past_of xs i h

pub bit_there : (xs : List Bool) (i : ℕ) → i < length xs → slice_get xs i ≡ Some (slice_index_or xs i false)
bit_there [] i h = absurd (omega (arith, h))
bit_there (x ∷ xs) zero h = refl
bit_there (x ∷ xs) (suc i) h = bit_there xs i (omega (arith, h))

pub ruleset bits = (bit_past, bit_there)

drop_all : (xs : List Bool) (i : ℕ) → length xs ≤ i → drop i xs ≡ []
drop_all [] zero h = refl
drop_all [] (suc i) h = refl
drop_all (x ∷ xs) zero h = absurd (omega (arith, h))
drop_all (x ∷ xs) (suc i) h = drop_all xs i (omega (arith, h))

take_all : (xs : List Bool) (n : ℕ) → length xs ≤ n → take n xs ≡ xs
take_all [] zero h = refl
take_all [] (suc n) h = refl
take_all (x ∷ xs) zero h = absurd (omega (arith, h))
take_all (x ∷ xs) (suc n) h = ap (λ ys. x ∷ ys) (take_all xs n (omega (arith, h)))

pub high_bits : (xs : List Bool) (i w : ℕ) → w ≡ length xs → i < w → take (w - 1 - i + 1) (drop i xs) ≡ drop i xs
high_bits xs i w e h = take_all (drop i xs) (w - 1 - i + 1) (omega (arith, e, length-drop i xs))

pub no_bits : (xs : List Bool) (i : ℕ) → length xs ≤ i → [] ≡ drop i xs
no_bits xs i h = sym (drop_all xs i h)

pub ruleset highs = (high_bits, no_bits, length-drop)

pub set_bit : (xs : List Bool) (i : ℕ) (b : Bool) → i < length xs → take i xs ++ (b ∷ drop (i + 1) xs) ≡ slice_set xs i b
set_bit [] i b h = absurd (omega (arith, h))
set_bit (x ∷ xs) zero b h = refl
set_bit (x ∷ xs) (suc i) b h =
    let e : suc i + 1 ≡ suc (i + 1) = omega arith in
    ap (λ k. take (suc i) (x ∷ xs) ++ (b ∷ drop k (x ∷ xs))) e ∙ ap (λ ys. x ∷ ys) (set_bit xs i b (omega (arith, h)))

pub unset_bit : (xs : List Bool) (i : ℕ) (b : Bool) → length xs ≤ i → xs ≡ slice_set xs i b
unset_bit xs i b h = sym (unset_of xs i b h)

pub ruleset sets = (set_bit, unset_bit)
