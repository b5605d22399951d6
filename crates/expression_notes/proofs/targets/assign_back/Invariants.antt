use Rattle.std.proofs.Common.{◌≡◌, ◌≤◌, length, map, take}
use Rattle.value_indices.specs.Walking.{got, run, seen}
use Rattle.pattern_leaves.specs.Settings.{around_of}
use Rattle.expression_forms.specs.Spots.{spot_of}
use Rattle.expression_notes.specs.Chains.{written_back}
use Rattle.expression_notes.proofs.targets.assign_back.Given as goal

abbrev pub invariant-loop-left : goal.invariant-loop-left
invariant-loop-left l =
    let spots = spot_of (around_of l.around) in
    let rest = written_back l.place (map spots (take l.left l.spots)) l.value in
    let all = written_back l.place (map spots l.spots) l.initial.value in
    record {
      within : l.left ≤ length l.spots;
      value : got rest (seen l.walking) ≡ got all (seen l.fn.walking);
      walked : run rest (seen l.walking) ≡ run all (seen l.fn.walking);
    }

abbrev pub decreases-loop-left : goal.decreases-loop-left
decreases-loop-left l = l.left
