use Rattle.std.proofs.Common.{◌≡◌, ◌+◌, ◌-◌, ◌≤◌, length}
use Rattle.sail_lex.specs.Position.{place_at}
use Rattle.sail_lex.proofs.Going.{Continues}
use Rattle.sail_lex.proofs.lexer.lex.Given as goal

abbrev pub invariant-loop-at : goal.invariant-loop-at
invariant-loop-at l = record {
  within : l.at ≤ length l.source;
  place : l.place ≡ place_at l.file l.source l.at;
  count : l.before + length l.tokens ≤ 1000000;
  going : Continues l.file l.source l.before l.at l.tokens;
}

abbrev pub decreases-loop-at : goal.decreases-loop-at
decreases-loop-at l = length l.source - l.at
