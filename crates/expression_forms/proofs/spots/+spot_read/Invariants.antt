use Rattle.std.proofs.Common.{◌≡◌, ◌++◌, drop, map}
use Rattle.value_indices.specs.Walking.{got, run, seen}
use Rattle.pattern_leaves.specs.Settings.{around_of}
use Rattle.expression_forms.specs.Spots.{each_read, spot_of}
use Rattle.expression_forms.proofs.spots.+spot_read.Given as goal

abbrev pub invariant-read_each-loop-spot : goal.invariant-read_each-loop-spot
invariant-read_each-loop-spot l =
    let rest = each_read (map (spot_of (around_of l.around)) (drop l.spot-index l.spots)) in
    let all = each_read (map (spot_of (around_of l.around)) l.spots) in
    record {
      value : l.made ++ got rest (seen l.walking) ≡ got all (seen l.fn.walking);
      walked : run rest (seen l.walking) ≡ run all (seen l.fn.walking);
    }
