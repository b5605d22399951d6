-- What is known of a table by two clauses of one call, and which integers are small.
use Rattle.std.proofs.Common.{◌≡◌, ◌∙◌, ◌-◌, ◌^◌, ◌<◌, ◌≤◌, ◌≤ℤ◌, ℕ, ℤ, Bool, true, false, List, ap, arith, negsuc, pos, refl, subst, sym}
use Rattle.std.specs.Prelude.{nat_lt, Err, Ok, OnOk, Result}
use Rattle.std.proofs.lemmas.Bool.{le-leb}
use Rattle.std.proofs.lemmas.Bool.Decides.{nat_tests}
use Rattle.std.proofs.lemmas.Int.{ints}
use lib.Signed.{le_z}
use Rattle.sail_types.specs.Limits.{is_small, largest}
use Rattle.size_values.specs.declared.sized.Sized.{Sized}
use Rattle.size_values.specs.declared.sized.Sized.TheVariants as S
use Rattle.lowered_types.specs.Table.{is_known}
use Rattle.lowered_pieces.specs.Emitted.{Begins}
use Rattle.jib_lower.proofs.Kept.{known_stays}

pub ok_both : {T E P Q R : Type 0} (r : Result T E) → (P → Q → R) → OnOk r P → OnOk r Q → OnOk r R
ok_both (Ok x) f p q = f p q
ok_both (Err e) f p q = tt

lt_true : (a b : ℕ) → nat_lt a b ≡ true → a < b
lt_true a b h = grind (arith, nat_tests)

lt_false : (a b : ℕ) → nat_lt a b ≡ false → b ≤ a
lt_false a b h = grind (arith, nat_tests)

-- words of the last width, and of those below it
pub words_next : (us ws : List Sized) (count : ℕ) (z : ℤ) → Begins us ws → z ≡ pos (count - 1) → is_known us (S.Bits z) ≡ true
    → ((n : ℕ) → n < count - 1 → is_known ws (S.Bits (pos n)) ≡ true) → (n : ℕ) → n < count → is_known ws (S.Bits (pos n)) ≡ true
words_next us ws count z more is h below n lt = by (nat_lt n (count - 1)) refl
  where
    by : (b : Bool) → nat_lt n (count - 1) ≡ b → is_known ws (S.Bits (pos n)) ≡ true
    by true e = below n (lt_true n (count - 1) e)
    by false e =
        let same : n ≡ count - 1 = omega (arith, lt, lt_false n (count - 1) e) in
        known_stays us ws more (S.Bits (pos n)) (subst (λ k. is_known us (S.Bits k) ≡ true) (is ∙ ap (λ k. pos k) (sym same)) h)

-- ---- small integers

small_within : (n : ℕ) → n ≤ 4096 → is_small (pos n) ≡ true
unfolding largest
small_within n l = le-leb n (2 ^ 126) (omega (arith, l))

-- what the code's test says
holds : (x y : ℤ) → le_z x y ≡ true → x ≤ℤ y
holds x y e = first_of (omega (arith, ints), grind (arith, ints))

pub small_between : (z : ℤ) (m : ℕ) → m ≤ 4096 → le_z (pos 0) z ≡ true → le_z z (pos m) ≡ true → is_small z ≡ true
small_between (pos n) m k low high =
    let most : pos n ≤ℤ pos m = holds (pos n) (pos m) high in
    small_within n (omega (arith, ints, most, k))
small_between (negsuc n) m k low high =
    let least : pos 0 ≤ℤ negsuc n = holds (pos 0) (negsuc n) low in
    absurd (omega (arith, ints, least))
