-- What `parse` gives for a numeral.
use Rattle.std.proofs.Common.{◌≡◌, ℕ, ◌<◌, ◌≤◌, ◌^◌, ◌-◌, true, not, ◌==◌, ◌&&◌, List, length, arith, Some, Result, Ok, Err, refl, ap, sym, inl, inr, rules}
use Rattle.std.proofs.Common.{None, nat_le}
use Rattle.std.specs.Str.Parse.{ParsesUnsigned, digits_value, digits_value_after}
use Rattle.std.specs.Result.{OkIff, result_ok}
use Rattle.std.specs.List.{list_all}
use Rattle.std.specs.Char.{is_ascii_digit}
use Rattle.std.proofs.lemmas.Bool.{lt-ltb, le-ltb, cases_lt, and_parts, not-true, eqb-false}
use Rattle.std.proofs.lemmas.Str.{digit_value_digit}
use Rattle.std.proofs.lemmas.Str.Parse.{IsNumeralModel, FoldsDigits, numerals_by_fold, parse_digits}
use Rattle.std.proofs.lemmas.Bool.Decides.{nat_tests}
use Rattle.sail_words.specs.Numbers.{is_numeral, number_in}

folds : FoldsDigits (digits_value_after 10)
folds = record {
  empty = λ n. refl;
  more = λ n c cs k. ap (λ d. digits_value_after 10 d cs) (omega (arith, digit_value_digit c k));
}

own : IsNumeralModel (λ ds. list_all is_ascii_digit ds ≡ true) (digits_value 10)
own = numerals_by_fold _ (search rules) (digits_value_after 10) folds

-- a numeral that isn't read passes 64 bits
unread_numeral : {E : Type 0} (ds : List ℕ) (r : Result ℕ E)
    → ParsesUnsigned 64 10 ds r → is_numeral ds ≡ true → result_ok r ≡ None → 2 ^ 64 ≤ digits_value 10 ds
unread_numeral ds (Ok n) h p none = cc
unread_numeral ds (Err e) h p none =
    let parts = and_parts (not (length ds == 0)) (list_all is_ascii_digit ds) p in
    let filled : 0 < length ds = omega (arith, eqb-false (length ds) 0 (not-true (length ds == 0) parts.0)) in
    let refused = parse_digits own 64 ds (Err e) h parts.1 in
    elim (cases_lt (digits_value 10 ds) (2 ^ 64)) [ inl lt ↦ absurd (refused (filled, lt)) | inr le ↦ le ]

-- and is none of the numbers up to a bound of 64 bits
pub unread-number_in : {E : Type 0} (ds : List ℕ) (r : Result ℕ E) (least most : ℕ)
    → ParsesUnsigned 64 10 ds r → is_numeral ds ≡ true → result_ok r ≡ None → most < 2 ^ 64
    → number_in least most ds ≡ None
unread-number_in ds r least most h p none fits =
    let past : most < digits_value 10 ds = omega (arith, unread_numeral ds r h p none) in
    grind (arith, nat_tests)
