use Rattle.std.proofs.Common.{◌≡◌, ◌<◌, ◌≤◌, ◌^◌, ◌*◌, take, drop}
use Rattle.std.specs.Prelude.{count_by}
use Rattle.sail_lex.specs.Literal.{value_from, is_digit_of, base_of, digit_size}
use Rattle.sail_lex.proofs.value.digits_word.Given as goal

-- the bits of the digits so far, and the value that those that are left make of it
abbrev pub invariant-loop-byte : goal.invariant-loop-byte
invariant-loop-byte l = record {
  narrow : l.width ≤ 128;
  below : l.value < 2 ^ l.width;
  width : l.width ≡ digit_size l.radix * count_by (is_digit_of l.radix) (take l.byte-index l.text);
  same : value_from (is_digit_of l.radix) (base_of l.radix) l.value (drop l.byte-index l.text) ≡ value_from (is_digit_of l.radix) (base_of l.radix) 0 l.text;
}
