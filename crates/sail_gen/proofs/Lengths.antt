-- A model's text is no longer than a file of a model may be.
use Rattle.std.proofs.Common.{◌≡◌, ℕ, ◌+◌, ◌*◌, ◌<◌, ◌≤◌, List, [], ◌∷◌, length, All, sym, subst, arith, length-append}
use Rattle.std.specs.Fmt.{decimal}
use Rattle.std.specs.Int.{w16, to_be_bytes}
use Rattle.std.specs.List.{flat_map, range_with_len, sum_by}
use Rattle.std.proofs.lemmas.Fmt.{length-decimal-le}
use Rattle.std.proofs.lemmas.List.Concat.{length-flat_map}
use Rattle.std.proofs.lemmas.List.FromFn.{length-range_with_len, get_or-range_with_len}
use Rattle.std.proofs.lemmas.List.Sums.{sum_by-le}
use Rattle.hex.specs.Hex.{lower_digits}
use Rattle.hex.proofs.HexLemmas.{length-encode_with}
use Rattle.sail_gen.specs.Draws.{draw}
use Rattle.sail_gen.specs.Model.{function_name, function_text, drawn_function, functions_text, case_text, cases_text, model_text}

-- the texts of numbers in a row, each of which has at most so many bytes
numbers_length : (f : ℕ → List ℕ) (most size : ℕ) → ((k : ℕ) → k < size → length (f k) ≤ most)
    → length (flat_map f (range_with_len 0 size)) ≤ size * most
numbers_length f most size each =
    let numbers = range_with_len 0 size in
    let count : length numbers ≡ size = length-range_with_len 0 size in
    let all : All (λ k. length (f k) ≤ most) numbers =
    λ k d within.
    let below : k < size = subst (λ n. k < n) count within in
    let at = get_or-range_with_len 0 size k d below in
    let here : 0 + k ≡ k = omega arith in
    subst (λ n. length (f n) ≤ most) (sym at) (subst (λ n. length (f n) ≤ most) (sym here) (each k below)) in
    let bound = sum_by-le (λ k. length (f k)) most numbers all in
    subst (λ n. n ≤ size * most) (sym (length-flat_map f numbers)) (subst (λ n. sum_by (λ k. length (f k)) numbers ≤ n * most) count bound)

decimal_length : (k : ℕ) → k < 4000 → length (decimal k) ≤ 4
decimal_length k small = length-decimal-le 4 k (omega arith) (omega arith) (omega arith)

name_length : (k : ℕ) → k < 4000 → length (function_name k) ≤ 5
name_length k small = omega (arith, decimal_length k small)

function_length : (k operator constant : ℕ) → k < 4000 → length (function_text k operator constant) ≤ 60
function_length k operator constant small =
    simp length-append (omega (arith, decimal_length k small, length-encode_with lower_digits (constant ∷ [])))

case_length : (k : ℕ) → k < 4000 → length (case_text k) ≤ 28
case_length k small = simp length-append (omega (arith, decimal_length k small, length-encode_with lower_digits (to_be_bytes w16 k)))

functions_length : (seed size : ℕ) → size ≤ 4000 → length (functions_text seed size) ≤ size * 60
functions_length seed size few =
    numbers_length (drawn_function seed) 60 size
    (λ k below. function_length k (draw seed (2 * k) 4) (draw seed (2 * k + 1) 256) (omega arith))

cases_length : (size : ℕ) → size ≤ 4000 → length (cases_text size) ≤ size * 28
cases_length size few = numbers_length case_text 28 size (λ k below. case_length k (omega arith))

pub model_length : (seed size : ℕ) → size ≤ 4000 → length (model_text seed size) ≤ 4194304
model_length seed size few =
    simp length-append (omega (arith, functions_length seed size few, cases_length size few))
