use Rattle.std.proofs.Common.{◌≡◌, drop, map}
use Rattle.value_fits.specs.Fitting.{also}
use Rattle.pattern_leaves.specs.Settings.{around_of}
use Rattle.expression_forms.specs.Spots.{each_left, left_of}
use Rattle.expression_forms.proofs.pending.+left_fits.Given as goal

abbrev pub invariant-fits_each-loop-left : goal.invariant-fits_each-loop-left
invariant-fits_each-loop-left l =
    also l.made (each_left (map (left_of (around_of l.around)) (drop l.left-index l.lefts)))
    ≡ each_left (map (left_of (around_of l.around)) l.lefts) l.next
