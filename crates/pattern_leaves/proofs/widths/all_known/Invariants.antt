use Rattle.std.proofs.Common.{◌≡◌, drop}
use Rattle.pattern_leaves.specs.Widths as widths
use Rattle.pattern_leaves.proofs.widths.all_known.Given as goal

abbrev pub invariant-loop-width : goal.invariant-loop-width
invariant-loop-width l = widths.all_known (drop l.width-index l.widths) ≡ widths.all_known l.widths
