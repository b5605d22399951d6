use Rattle.std.proofs.Common.{◌≡◌, take}
use Rattle.std.specs.Prelude.{count_by}
use Rattle.sail_lex.specs.Literal.{is_digit_of}
use Rattle.sail_lex.proofs.literal.digit_count.Given as goal

-- the digits so far
abbrev pub invariant-loop-byte : goal.invariant-loop-byte
invariant-loop-byte l = l.count ≡ count_by (is_digit_of l.radix) (take l.byte-index l.text)
