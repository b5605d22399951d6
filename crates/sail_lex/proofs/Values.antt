-- The value of a number as its digits are read.
use Rattle.std.proofs.Common.{◌≡◌, ℕ, ◌+◌, ◌*◌, ◌<◌, ◌≤◌, Bool, true, false, List, [], ◌∷◌, length, get_or, drop, refl, ap, ◌∙◌, arith, le-ltb}
use Rattle.std.proofs.Common.{lt-ltb, ◌-◌, leb, leb-true}
use Rattle.std.proofs.Common.{sym, subst, ◌^◌, eqb, eqb-true, lit<, inl, inr, ◌⊎◌}
use Rattle.std.proofs.Math.Nat.{mul_comm}
use Rattle.std.proofs.lemmas.Nat.{mul-add-lt, pow-add}
use Rattle.std.proofs.lemmas.Bool.{or_cases}
use Rattle.sail_lex.specs.Bytes.{is_binary_digit}
use Rattle.std.proofs.lemmas.List.{drop_more, drop_all}
use Rattle.std.proofs.lemmas.Bool.{and_parts}
use Rattle.std.specs.Char.{digit_value, is_ascii_digit}
use Rattle.std.specs.Prelude.{if◌then◌else◌}
use Rattle.sail_lex.specs.Literal.{value_from}

le_times : (a b : ℕ) → 0 < b → a ≤ a * b
le_times a b h = grind arith

-- digits never make a number smaller
pub value_grows : (p : ℕ → Bool) (base before : ℕ) (text : List ℕ) → 0 < base → before ≤ value_from p base before text
unfolding value_from
value_grows p base before [] h = omega arith
value_grows p base before (b ∷ text) h =
    elim (p b) as (λ t. before ≤ value_from p base (if t then before * base + digit_value b else before) text) [
      | true ↦ let grown : before * base + digit_value b ≤ value_from p base (before * base + digit_value b) text =
          value_grows p base (before * base + digit_value b) text h in
          let times : before ≤ before * base = le_times before base h in omega arith
      | false ↦ value_grows p base before text h
    ]

value_yes : (p : ℕ → Bool) (base value b : ℕ) (text : List ℕ) → p b ≡ true →
    value_from p base value (b ∷ text) ≡ value_from p base (value * base + digit_value b) text
unfolding value_from
value_yes p base value b text h = ap (λ (t : Bool). value_from p base (if t then value * base + digit_value b else value) text) h

value_no : (p : ℕ → Bool) (base value b : ℕ) (text : List ℕ) → p b ≡ false → value_from p base value (b ∷ text) ≡ value_from p base value text
unfolding value_from
value_no p base value b text h = ap (λ (t : Bool). value_from p base (if t then value * base + digit_value b else value) text) h

module _ (p : ℕ → Bool) (base value : ℕ) (text : List ℕ) (i : ℕ) where
  -- a digit more
  pub value_digit : i < length text → p (get_or text i 0) ≡ true →
      value_from p base value (drop i text) ≡ value_from p base (value * base + digit_value (get_or text i 0)) (drop (i + 1) text)
  value_digit h digit = ap (value_from p base value) (drop_more text i 0 h) ∙ value_yes p base value (get_or text i 0) (drop (i + 1) text) digit

  -- a byte more that is no digit
  pub value_other : i < length text → p (get_or text i 0) ≡ false → value_from p base value (drop i text) ≡ value_from p base value (drop (i + 1) text)
  value_other h other = ap (value_from p base value) (drop_more text i 0 h) ∙ value_no p base value (get_or text i 0) (drop (i + 1) text) other

  pub value_end : length text ≤ i → value_from p base value (drop i text) ≡ value
  unfolding value_from
  value_end h = rw (drop_all i text h) refl

-- the value of a decimal digit
pub digit_value_decimal : (b : ℕ) → 48 ≤ b → b ≤ 57 → digit_value b ≡ b - 48
digit_value_decimal b low high = rw (le-ltb b 48 low, lt-ltb b 58 (omega arith)) refl

-- a decimal digit is one of '0' to '9'
decimal_range : (b : ℕ) → is_ascii_digit b ≡ true → (48 ≤ b) × (b ≤ 57)
decimal_range b h = (leb-true 48 b (and_parts (leb 48 b) (leb b 57) h).0, leb-true b 57 (and_parts (leb 48 b) (leb b 57) h).1)

-- a decimal digit more
pub decimal_digit : (value : ℕ) (text : List ℕ) (i : ℕ) → i < length text → is_ascii_digit (get_or text i 0) ≡ true →
    value_from is_ascii_digit 10 value (drop i text) ≡ value_from is_ascii_digit 10 (value * 10 + (get_or text i 0 - 48)) (drop (i + 1) text)
decimal_digit value text i h digit =
    let range = decimal_range (get_or text i 0) digit in
    value_digit is_ascii_digit 10 value text i h digit
    ∙ ap (λ d. value_from is_ascii_digit 10 (value * 10 + d) (drop (i + 1) text)) (digit_value_decimal (get_or text i 0) range.0 range.1)

-- a number that is too large stays so
pub decimal_passes : (largest value : ℕ) (text : List ℕ) (i : ℕ) → i < length text → is_ascii_digit (get_or text i 0) ≡ true →
    largest < value * 10 + (get_or text i 0 - 48) → largest < value_from is_ascii_digit 10 value (drop i text)
decimal_passes largest value text i h digit large =
    rw (decimal_digit value text i h digit)
    (omega (arith, value_grows is_ascii_digit 10 (value * 10 + (get_or text i 0 - 48)) (drop (i + 1) text) (omega arith)))

-- a digit of k bits more has k bits more
pub grow : (k base value width digit : ℕ) → base ≡ 2 ^ k → value < 2 ^ width → digit < base → value * base + digit < 2 ^ (width + k)
grow k base value width digit e small below =
    let place = mul-add-lt value base digit (2 ^ width) small below in
    let wide = pow-add 2 width k in
    let swapped : base * 2 ^ width ≡ 2 ^ width * 2 ^ k = mul_comm base (2 ^ width) ∙ ap (λ n. 2 ^ width * n) e in
    subst (λ n. value * base + digit < n) (swapped ∙ sym wide) place

pub binary_small : (b : ℕ) → is_binary_digit b ≡ true → digit_value b < 2
binary_small b h = by_case (or_cases (eqb b 48) (eqb b 49) h) where
  by_case : (eqb b 48 ≡ true) ⊎ (eqb b 49 ≡ true) → digit_value b < 2
  by_case (inl e) = subst (λ n. digit_value n < 2) (sym (eqb-true b 48 e)) (lit< tt)
  by_case (inr e) = subst (λ n. digit_value n < 2) (sym (eqb-true b 49 e)) (lit< tt)

-- a digit more among more digits
pub one_more : (size n : ℕ) → size * n + size ≡ size * (n + 1)
one_more size n = grind arith
