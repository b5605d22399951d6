use Rattle.std.proofs.Common.{◌≡◌, drop}
use Rattle.sail_grammar.specs.Leaves.{all_ascii}
use Rattle.sail_grammar.proofs.literals.is_ascii.Given as goal

-- the bytes that are left decide
abbrev pub invariant-loop-byte : goal.invariant-loop-byte
invariant-loop-byte l = all_ascii (drop l.byte-index l.bytes) ≡ all_ascii l.bytes
