use Rattle.std.proofs.Common.{◌-◌, ◌≤◌, length}
use Rattle.sail_lex.proofs.Marks.{Going}
use Rattle.sail_lex.proofs.comment.comment_length.Given as goal

abbrev pub invariant-loop-depth : goal.invariant-loop-depth
invariant-loop-depth l = record {
  begun : 2 ≤ l.at;
  within : l.at ≤ length l.text;
  shallow : l.depth ≤ l.at;
  going : Going l.text l.depth l.at;
}

abbrev pub decreases-loop-depth : goal.decreases-loop-depth
decreases-loop-depth l = length l.text - l.at
