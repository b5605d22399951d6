use Rattle.std.proofs.Common.{◌≡◌, ◌++◌, drop, map, false}
use Rattle.value_indices.specs.Opening.{wide_opening, parts_opened, namings_of, each_opened}
use Rattle.value_indices.specs.Walking.{got, run, seen}
use Rattle.value_indices.proofs.readings.+widen.Given as goal

-- the rest makes up all of them
abbrev pub invariant-open_each-loop-part : goal.invariant-open_each-loop-part
invariant-open_each-loop-part l =
    let rest = parts_opened false (map wide_opening (drop l.part-index l.parts)) (drop l.part-index (namings_of l.naming)) in
    let all = each_opened l.parts l.naming in
    record {
      here : l.at ≡ l.part-index;
      value : l.made ++ got rest (seen l.walked) ≡ got all (seen l.initial.walked);
      walked : run rest (seen l.walked) ≡ run all (seen l.initial.walked);
    }
