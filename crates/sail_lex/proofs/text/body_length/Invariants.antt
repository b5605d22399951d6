use Rattle.std.proofs.Common.{◌≡◌, ◌+◌, ◌-◌, ◌≤◌, drop, length}
use Rattle.std.specs.List.{list_all}
use Rattle.sail_lex.specs.Literal.{parts, inside, is_good, size_of}
use Rattle.sail_lex.proofs.text.body_length.Given as goal

-- the parts so far are good, and have as many bytes as the place says
abbrev pub invariant-loop-at : goal.invariant-loop-at
invariant-loop-at l = record {
  within : l.at ≤ length l.text;
  good : list_all is_good (inside (parts (drop l.at l.text))) ≡ list_all is_good (inside (parts l.text));
  size : l.at + size_of (inside (parts (drop l.at l.text))) ≡ size_of (inside (parts l.text));
}

abbrev pub decreases-loop-at : goal.decreases-loop-at
decreases-loop-at l = length l.text - l.at
