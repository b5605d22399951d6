use Rattle.std.proofs.Common.{◌≡◌, drop}
use Rattle.pattern_leaves.specs.Widths as widths
use Rattle.pattern_leaves.proofs.widths.first_sum.Given as goal

abbrev pub invariant-loop-width : goal.invariant-loop-width
invariant-loop-width l = widths.summed l.total (drop l.width-index l.widths) ≡ widths.first_sum l.widths
