use Rattle.std.proofs.Common.{◌≡◌, ◌++◌, drop}
use Rattle.value_indices.specs.Steps.{each}
use Rattle.value_indices.specs.Walking.{got, run, seen}
use Rattle.pattern_leaves.specs.Widths.{cut_width}
use Rattle.pattern_leaves.proofs.widths.cut_widths.Given as goal

abbrev pub invariant-loop-width : goal.invariant-loop-width
invariant-loop-width l =
    let rest = each (cut_width l.place l.rest) (drop l.width-index l.widths) in
    let all = each (cut_width l.place l.rest) l.widths in
    record {
      made : l.parts ++ got rest (seen l.walking) ≡ got all (seen l.fn.walking);
      walked : run rest (seen l.walking) ≡ run all (seen l.fn.walking);
    }
