use Rattle.std.proofs.Common.{◌≡◌, ◌≤◌, ◌^◌, drop}
use Rattle.std.specs.Char.{is_ascii_digit}
use Rattle.sail_lex.specs.Literal.{value_from}
use Rattle.sail_lex.proofs.value.decimal_value.Given as goal

-- the value so far, with the bytes that are left
abbrev pub invariant-loop-byte : goal.invariant-loop-byte
invariant-loop-byte l = record {
  small : l.value ≤ 2 ^ 126;
  same : value_from is_ascii_digit 10 l.value (drop l.byte-index l.text) ≡ value_from is_ascii_digit 10 0 l.text;
}
