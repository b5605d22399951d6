-- The prefixes of literals of bits, and how runs begin.
use Rattle.std.proofs.Common.{◌≡◌, ℕ, suc, ◌+◌, ◌*◌, ◌<◌, ◌≤◌, Bool, true, false, cond, eqb, List, [], ◌∷◌, length, take, drop, refl, sym, ap, ◌∙◌}
use Rattle.std.proofs.Common.{subst, arith, eqb-true}
use Rattle.std.specs.Prelude.{count_by, codes, nat_eq, ◌&&◌}
use Rattle.std.specs.List.{prefix_len, starts_with}
use Rattle.std.proofs.lemmas.Bool.{false≢true, and_parts, and_right}
use Rattle.sail_lex.specs.declared.literal.Radix.{Radix}
use Rattle.sail_lex.specs.declared.literal.Radix.TheVariants.{Base2, Base16}
use Rattle.sail_lex.specs.Bytes.{first}
use Rattle.sail_lex.specs.Front.{kind_of_bits}
use Rattle.sail_lex.specs.Literal.{radix_of, digit_size, is_digit_of}
use Rattle.sail_lex.specs.Valued.{IsValued}

-- the second byte of a prefix
second : (x y : ℕ) (text : List ℕ) → starts_with nat_eq text (x ∷ y ∷ []) ≡ true → y ≡ first (drop 1 text)
second x y [] h = absurd (false≢true h)
second x y (a ∷ []) h = absurd (false≢true (sym (and_right (eqb x a) false refl) ∙ h))
second x y (a ∷ c ∷ text) h = eqb-true y c (and_parts (eqb y c) true (and_parts (eqb x a) (eqb y c && true) h).1).0

pub hexadecimal_prefix : (text : List ℕ) → starts_with nat_eq text (codes "0x") ≡ true → radix_of text ≡ Base16
hexadecimal_prefix text h = ap (λ (b : ℕ). cond (eqb b 120) Base16 Base2) (sym (second 48 120 text h))

pub binary_prefix : (text : List ℕ) → starts_with nat_eq text (codes "0b") ≡ true → radix_of text ≡ Base2
binary_prefix text h = ap (λ (b : ℕ). cond (eqb b 120) Base16 Base2) (sym (second 48 98 text h))

-- a run whose first byte passes isn't empty
pub run_some : (p : ℕ → Bool) (text : List ℕ) → 0 < length text → p (first text) ≡ true → 0 < prefix_len p text
run_some p [] some h = absurd (omega arith)
run_some p (b ∷ text) some h = subst (λ (t : Bool). 0 < cond t (1 + prefix_len p text) 0) (sym h) (omega arith)

narrow : (radix : Radix) (text : List ℕ) (n : ℕ) → radix_of text ≡ radix → 2 ≤ length text →
    digit_size radix * count_by (is_digit_of radix) (drop 2 text) ≤ 128 → IsValued (kind_of_bits radix) text
unfolding IsValued
narrow Base2 text n e long small = (long, e, subst (λ (r : Radix). digit_size r * count_by (is_digit_of r) (drop 2 text) ≤ 128) (sym e) small)
narrow Base16 text n e long small = (long, e, subst (λ (r : Radix). digit_size r * count_by (is_digit_of r) (drop 2 text) ≤ 128) (sym e) small)

pub bits_valued : (radix : Radix) (text : List ℕ) (n : ℕ) → radix_of text ≡ radix → 2 ≤ length text →
    digit_size radix * count_by (is_digit_of radix) (take n (drop 2 text)) ≤ 128 → IsValued (kind_of_bits radix) (take (n + 2) text)
bits_valued radix [] n e long small = absurd (omega arith)
bits_valued radix (a ∷ []) n e long small = absurd (omega arith)
bits_valued radix (a ∷ c ∷ text) n e long small =
    let two : suc (suc n) ≡ n + 2 = omega arith in
    subst (λ (k : ℕ). IsValued (kind_of_bits radix) (take k (a ∷ c ∷ text))) two (narrow radix (a ∷ c ∷ take n text) n e (omega arith) small)
