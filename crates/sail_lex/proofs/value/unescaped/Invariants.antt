use Rattle.std.proofs.Common.{◌≡◌, ◌-◌, ◌≤◌, ◌++◌, drop, length, map}
use Rattle.sail_lex.specs.Literal.{parts, inside, byte_of}
use Rattle.sail_lex.proofs.value.unescaped.Given as goal

-- the bytes so far, and those of the parts that are left
abbrev pub invariant-loop-at : goal.invariant-loop-at
invariant-loop-at l = record {
  within : l.at ≤ length l.text;
  same : l.bytes.items ++ map byte_of (inside (parts (drop l.at l.text))) ≡ map byte_of (inside (parts l.text));
}

abbrev pub decreases-loop-at : goal.decreases-loop-at
decreases-loop-at l = length l.text - l.at
