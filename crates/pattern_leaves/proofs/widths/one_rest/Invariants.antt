use Rattle.std.proofs.Common.{◌≡◌, true, drop}
use Rattle.pattern_leaves.specs.Widths as widths
use Rattle.pattern_leaves.proofs.widths.one_rest.Given as goal

abbrev pub invariant-loop-width : goal.invariant-loop-width
invariant-loop-width l = widths.one_rest l.may (drop l.width-index l.widths) ≡ widths.one_rest true l.widths
