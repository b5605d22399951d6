use Rattle.std.proofs.Common.{arith, sym, ◌∙◌, ap, drop, ◌+◌, ◌*◌, ◌^◌}
use Rattle.std.specs.Char.{is_ascii_digit}
use Rattle.sail_lex.specs.Literal.{value_from}
use Rattle.sail_lex.proofs.Values.{value_other, value_end, decimal_digit, decimal_passes}
use Rattle.sail_lex.proofs.value.decimal_value.Goals as goal
use Rattle.sail_lex.proofs.value.decimal_value.Goals.{then-is_ascii_digit+else-value-digit, else-is_ascii_digit}

-- the number is past the largest, and digits never make it smaller
pub returns-then-value-digit : goal.returns-then-value-digit
returns-then-value-digit c =
    let digit = sym c.is_ascii_digit.ensures.value ∙ c.if-is_ascii_digit.true in
    let past = decimal_passes (2 ^ 126) c.loop-byte.value c.args.text.now c.loop-byte.byte-index c.loop-byte-test.true digit
    (omega (arith, c.from-digit.ensures, c.if-value-digit.true)) in
    λ small. omega (arith, past, c.loop-byte.invariant.same)

pub loop-byte-preserved : goal.loop-byte-preserved
loop-byte-preserved c =
    elim c.if-is_ascii_digit.branch [
      | then-is_ascii_digit+else-value-digit w ↦
          let digit = sym c.is_ascii_digit.ensures.value ∙ w.if-is_ascii_digit.true in
          record {
            small = omega (arith, w.value-is, w.if-value-digit.false, w.from-digit.ensures, c.type_inv.text c.loop-byte.byte-index);
            same = ap (λ v. value_from is_ascii_digit 10 v (drop (c.loop-byte.byte-index + 1) c.args.text.now))
                (w.value-is ∙ ap (λ d. c.loop-byte.value * 10 + d) w.from-digit.ensures) ∙
                (sym (decimal_digit c.loop-byte.value c.args.text.now c.loop-byte.byte-index c.loop-byte-test.true digit) ∙ c.loop-byte.invariant.same);
          }
      | else-is_ascii_digit w ↦
          let other = sym c.is_ascii_digit.ensures.value ∙ w.if-is_ascii_digit.false in
          record {
            small = omega (arith, w.value-is, c.loop-byte.invariant.small);
            same = ap (λ v. value_from is_ascii_digit 10 v (drop (c.loop-byte.byte-index + 1) c.args.text.now)) w.value-is ∙
                (sym (value_other is_ascii_digit 10 c.loop-byte.value c.args.text.now c.loop-byte.byte-index c.loop-byte-test.true other) ∙
                c.loop-byte.invariant.same);
          }
    ]

pub returns : goal.returns
returns c =
    let e = sym (value_end is_ascii_digit 10 c.loop-byte.value c.args.text.now c.loop-byte.byte-index c.loop-byte-test.false) ∙ c.loop-byte.invariant.same in
    (omega (arith, e, c.loop-byte.invariant.small), e)
