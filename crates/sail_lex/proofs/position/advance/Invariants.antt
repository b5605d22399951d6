use Rattle.std.proofs.Common.{◌≡◌}
use Rattle.sail_lex.specs.Position.{line_at, column_at}
use Rattle.sail_lex.proofs.position.advance.Given as goal

abbrev pub invariant-loop-i : goal.invariant-loop-i
invariant-loop-i l = record {
  line : l.line ≡ line_at l.source l.i;
  column : l.column ≡ column_at l.source l.i;
}
