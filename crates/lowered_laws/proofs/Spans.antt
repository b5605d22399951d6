-- The integers of `foreach`: what is past all integers is past the last one that counts, and all others are within the limits.
use Rattle.std.proofs.Common.{◌≡◌, Bool, true, false, arith}
use Rattle.std.specs.Prelude.{ℤ, pos, ◌+ℤ◌, ◌-ℤ◌, ◌≤ℤ◌, nat_abs, int_le, int_lt}
use Rattle.std.proofs.lemmas.Int.{ints}
use Rattle.std.proofs.lemmas.Bool.{le-leb, leb-true}
use Rattle.sail_types.specs.Limits.{largest, is_small}
use Rattle.sail_core.specs.declared.tree.Counting.{Counting}
use Rattle.sail_core.specs.declared.tree.Counting.TheVariants.{Up, Down}
use Rattle.sail_core.specs.Meaning.{in_span, next_of}

low_from : (z : ℤ) → is_small z ≡ true → pos 0 ≤ℤ (z +ℤ pos largest)
low_from z h = let k = leb-true (nat_abs z) largest h in omega (arith, ints, k)

high_from : (z : ℤ) → is_small z ≡ true → z ≤ℤ pos largest
high_from z h = let k = leb-true (nat_abs z) largest h in omega (arith, ints, k)

small_to : (z : ℤ) → pos 0 ≤ℤ (z +ℤ pos largest) → z ≤ℤ pos largest → is_small z ≡ true
small_to z low high = le-leb (nat_abs z) largest (omega (arith, ints, low, high))

pub one_from : (z : ℤ) → int_le (pos 1) z ≡ true → pos 1 ≤ℤ z
one_from z h = grind (arith, ints)

lt_true : (i j : ℤ) → int_lt i j ≡ true → (i +ℤ pos 1) ≤ℤ j
lt_true i j h = grind (arith, ints)

lt_false : (i j : ℤ) → int_lt i j ≡ false → j ≤ℤ i
lt_false i j h = grind (arith, ints)

not_le : (i j : ℤ) → (j +ℤ pos 1) ≤ℤ i → int_le i j ≡ false
not_le i j h = grind (arith, ints)

-- how far a step still leads to an integer
abbrev pub room : Counting → ℤ → ℤ
room Up by = pos largest -ℤ by
room Down by = by -ℤ pos largest

abbrev pub past_room : Counting → ℤ → ℤ → Bool
past_room Up by i = int_lt (room Up by) i
past_room Down by i = int_lt i (room Down by)

pub room_small : (way : Counting) (by : ℤ) → is_small by ≡ true → pos 1 ≤ℤ by → is_small (room way by) ≡ true
room_small Up by h one =
    let high = high_from by h in
    small_to (pos largest -ℤ by) (omega (arith, ints, high, one)) (omega (arith, ints, high, one))
room_small Down by h one =
    let high = high_from by h in
    small_to (by -ℤ pos largest) (omega (arith, ints, high, one)) (omega (arith, ints, high, one))

-- past all integers no turn is left
pub past_last : (way : Counting) (i to by : ℤ) → is_small to ≡ true → past_room way by i ≡ true → in_span way (next_of way i by) to ≡ false
past_last Up i to by h f =
    let high = high_from to h in
    let over = lt_true (pos largest -ℤ by) i f in
    not_le (i +ℤ by) to (omega (arith, ints, high, over))
past_last Down i to by h f =
    let low = low_from to h in
    let under = lt_true i (by -ℤ pos largest) f in
    not_le to (i -ℤ by) (omega (arith, ints, low, under))

pub next_small : (way : Counting) (i by : ℤ) → is_small i ≡ true → pos 1 ≤ℤ by → past_room way by i ≡ false → is_small (next_of way i by) ≡ true
next_small Up i by h one f =
    let low = low_from i h in
    let fits = lt_false (pos largest -ℤ by) i f in
    small_to (i +ℤ by) (omega (arith, ints, low, one)) (omega (arith, ints, fits))
next_small Down i by h one f =
    let high = high_from i h in
    let fits = lt_false i (by -ℤ pos largest) f in
    small_to (i -ℤ by) (omega (arith, ints, fits)) (omega (arith, ints, high, one))
