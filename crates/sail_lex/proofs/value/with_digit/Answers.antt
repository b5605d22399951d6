use Rattle.std.proofs.Common.{◌≡◌, ℕ, ◌+◌, ◌*◌, ◌^◌, ◌<◌, ◌≤◌, true, sym, ap, subst, arith, refl, Fits}
use Rattle.std.specs.Int.{w128}
use Rattle.std.proofs.Math.Facts.{Fits-of_lt}
use Rattle.std.proofs.Math.Pow.{pow_mono}
use Rattle.sail_lex.specs.Literal.{is_digit_of, digit_size}
use Rattle.sail_lex.proofs.Values.{grow, binary_small}
use Rattle.sail_lex.proofs.value.with_digit.Goals as goal

-- a number with room for more bits fits
fits : (n width size room : ℕ) → n < 2 ^ (width + size) → size ≡ room → width + room ≤ 128 → Fits w128 n
fits n width size room small e h =
    let wide : width + size ≤ 128 = omega arith in
    Fits-of_lt (omega (arith, pow_mono wide))

below : (value base digit n : ℕ) → value * base + digit < n → value * base < n
below value base digit n h = omega arith

pub overflow_mul-result : goal.overflow_mul-result
overflow_mul-result c =
    fits (c.args.value * 2) c.args.width 1 (digit_size c.args.radix)
    (below c.args.value 2 0 (2 ^ (c.args.width + 1)) (grow 1 2 c.args.value c.args.width 0 refl c.requires.below (omega arith)))
    (sym (ap digit_size c.in-Base2.is)) c.requires.room

pub overflow_add-result : goal.overflow_add-result
overflow_add-result c =
    let digit = subst (λ r. is_digit_of r c.args.byte ≡ true) c.in-Base2.is c.requires.digit in
    fits (c.args.value * 2 + c.digit.result) c.args.width 1 (digit_size c.args.radix)
    (grow 1 2 c.args.value c.args.width c.digit.result refl c.requires.below
    (omega (arith, c.digit.ensures.value, binary_small c.args.byte digit))) (sym (ap digit_size c.in-Base2.is)) c.requires.room

pub overflow_mul-result-in-Base16 : goal.overflow_mul-result-in-Base16
overflow_mul-result-in-Base16 c =
    fits (c.args.value * 16) c.args.width 4 (digit_size c.args.radix)
    (below c.args.value 16 0 (2 ^ (c.args.width + 4)) (grow 4 16 c.args.value c.args.width 0 refl c.requires.below (omega arith)))
    (sym (ap digit_size c.in-Base16.is)) c.requires.room

pub overflow_add-result-in-Base16 : goal.overflow_add-result-in-Base16
overflow_add-result-in-Base16 c =
    fits (c.args.value * 16 + c.digit-in-Base16.result) c.args.width 4 (digit_size c.args.radix)
    (grow 4 16 c.args.value c.args.width c.digit-in-Base16.result refl c.requires.below c.digit-in-Base16.ensures.small)
    (sym (ap digit_size c.in-Base16.is)) c.requires.room

pub returns-in-Base16-clause-below : goal.returns-in-Base16-clause-below
returns-in-Base16-clause-below c =
    subst (λ (k : ℕ). c.args.value * 16 + c.digit-in-Base16.result < 2 ^ (c.args.width + k)) (sym (ap digit_size c.in-Base16.is))
    (grow 4 16 c.args.value c.args.width c.digit-in-Base16.result refl c.requires.below c.digit-in-Base16.ensures.small)
