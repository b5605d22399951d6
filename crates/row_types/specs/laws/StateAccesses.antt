-- What the conditions of an access say of its width, its address and its word.
use Rattle.std.proofs.Common.{◌≡◌, ℕ, ◌+◌, ◌-◌, ◌*◌, ◌≤◌, Bool, true, List, [], ◌∷◌, ◌++◌, length, drop, ap, sym, ◌∙◌, arith}
use Rattle.std.proofs.Common.{length-take, length-drop}
use Rattle.std.specs.Prelude.{ℤ, pos, ◌*ℤ◌, ◌+ℤ◌, ◌≤ℤ◌, nat_le, nat_eq, nat_abs, ◌&&◌}
use Rattle.std.specs.List.{list_all}
use Rattle.std.proofs.lemmas.Int.{ints}
use Rattle.std.proofs.lemmas.Bool.{and_parts, and_from, le-leb, leb-true, eq-eqb}
use Rattle.sail_types.specs.Numbers.{Assignment, true_in}
use Rattle.sail_types.specs.Sums.{constant}
use Rattle.sail_types.proofs.Substituted.{number_constant}
use Rattle.model_state.specs.Bytes.{span}
use Rattle.model_state.specs.Words.{length-word_of}
use Rattle.model_state.specs.RunState.{RunState}
use Rattle.model_state.specs.StateRows.{is_there, word_at, is_place, is_placed}
use Rattle.row_types.specs.Formulas.{first, second, third, at_most, equal}
use Rattle.row_types.specs.RowTypes.{access, bits_of_bytes}
use Rattle.row_types.specs.laws.Formulas.{number_variable, number_times, two_from, at_least_from, up_to_from, equal_from}

-- an access of this many bytes at an address of so many bits
pub record IsAccess (z : ℤ) (bits : ℤ) : Type 0 where
  pub low : pos 1 ≤ℤ z
  pub high : z ≤ℤ pos 16
  pub wide : bits ≡ pos 64

pub access_from : (nu : Assignment) → list_all (true_in nu) access ≡ true → IsAccess (nu.int 0) (nu.int 1)
access_from nu h =
    let p = and_parts (true_in nu (at_most (constant (pos 1)) first))
    (list_all (true_in nu) (at_most first (constant (pos 16)) ∷ equal second (constant (pos 64)) ∷ [])) h in
    let q = two_from nu (at_most first (constant (pos 16))) (equal second (constant (pos 64))) p.1 in
    record {
      low = at_least_from nu (pos 1) 0 p.0;
      high = up_to_from nu 0 (pos 16) q.0;
      wide = sym (number_variable nu 1) ∙ equal_from nu second (constant (pos 64)) q.1 ∙ number_constant nu (pos 64);
    }

-- and with a word of so many bits
pub record IsPlacedAccess (z : ℤ) (bits word : ℤ) : Type 0 where
  pub place : IsAccess z bits
  pub whole : word ≡ pos 8 *ℤ z +ℤ pos 0

pub placed_from : (nu : Assignment) → list_all (true_in nu) (access ++ equal third bits_of_bytes ∷ []) ≡ true
    → IsPlacedAccess (nu.int 0) (nu.int 1) (nu.int 2)
placed_from nu h =
    let a = at_most (constant (pos 1)) first in
    let b = at_most first (constant (pos 16)) in
    let c = equal second (constant (pos 64)) in
    let d = equal third bits_of_bytes in
    let p = and_parts (true_in nu a) (list_all (true_in nu) (b ∷ c ∷ d ∷ [])) h in
    let q = and_parts (true_in nu b) (list_all (true_in nu) (c ∷ d ∷ [])) p.1 in
    let r = two_from nu c d q.1 in
    record {
      place = record {
        low = at_least_from nu (pos 1) 0 p.0;
        high = up_to_from nu 0 (pos 16) q.0;
        wide = sym (number_variable nu 1) ∙ equal_from nu second (constant (pos 64)) r.0 ∙ number_constant nu (pos 64);
      };
      whole = sym (number_variable nu 2) ∙ equal_from nu third bits_of_bytes r.1 ∙ number_times nu (pos 8) 0 (pos 0);
    }

-- ---- the builtin's condition

pub place_is : (w : ℕ) (a : List Bool) → IsAccess (pos w) (pos (length a)) → is_place w a ≡ true
place_is w a known =
    let low : 1 ≤ w = omega (arith, ints, known.low) in
    let high : w ≤ 16 = omega (arith, ints, known.high) in
    let wide : length a ≡ 64 = ap nat_abs known.wide in
    and_from (nat_le 1 w) (nat_le w 16 && nat_eq (length a) 64) (le-leb 1 w low)
    (and_from (nat_le w 16) (nat_eq (length a) 64) (le-leb w 16 high) (eq-eqb (length a) 64 wide))

pub placed_is : (w : ℕ) (a word : List Bool) → IsPlacedAccess (pos w) (pos (length a)) (pos (length word)) → is_placed w a word ≡ true
placed_is w a word known =
    let whole : length word ≡ 8 * w = omega (arith, ints, known.whole) in
    and_from (is_place w a) (nat_eq (length word) (8 * w)) (place_is w a known.place) (eq-eqb (length word) (8 * w) whole)

-- ---- the word that is read

pub length-word_at : (s : RunState) (w a : ℕ) → is_there s w a ≡ true → length (word_at s w a) ≡ 8 * w
length-word_at s w a there =
    let p = and_parts (nat_le s.base a) (nat_le (a + w) (s.base + length s.bytes)) there in
    let above : s.base ≤ a = leb-true s.base a p.0 in
    let below : a + w ≤ s.base + length s.bytes = leb-true (a + w) (s.base + length s.bytes) p.1 in
    let all : length (span s.bytes (a - s.base) w) ≡ w =
    omega (arith, above, below, length-take w (drop (a - s.base) s.bytes), length-drop (a - s.base) s.bytes) in
    length-word_of (span s.bytes (a - s.base) w) ∙ ap (λ n. 8 * n) all
