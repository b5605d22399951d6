use denote.Param.Weighed.{most}
use Rattle.std.proofs.Common.{◌≡◌, ◌+◌, ◌*◌, ◌++◌, drop, map}
use Rattle.sail_types.proofs.types.Typ.TheLaws.{the_size}
use Rattle.value_indices.specs.Opening.{typ_opened, opening, with_openings, parts_opened, namings_of, types_opened, readings_opened}
use Rattle.value_indices.specs.Walking.{got, run, seen}
use Rattle.value_indices.proofs.Weights.{weight, heaviest}
use Rattle.value_indices.proofs.readings.+open.Given as goal

-- by depth, through types and what their Type variables stand for
abbrev pub decreases-open_reading : goal.decreases-open_reading
decreases-open_reading l = weight l.reading.now

abbrev pub decreases-open_typ : goal.decreases-open_typ
decreases-open_typ l = 2 * the_size l.typ.now + heaviest l.readings.now + 1

abbrev pub decreases-open_types : goal.decreases-open_types
decreases-open_types l = 2 * most the_size l.types.now + heaviest l.readings.now + 2

abbrev pub decreases-open_readings : goal.decreases-open_readings
decreases-open_readings l = heaviest l.readings.now + 1

-- the rest makes up all of them
abbrev pub invariant-open_types-loop-typ : goal.invariant-open_types-loop-typ
invariant-open_types-loop-typ l =
    let rest = parts_opened l.tells (map (λ t. typ_opened (with_openings l.readings) t l.indices) (drop l.typ-index l.types))
    (drop l.typ-index (namings_of l.naming)) in
    let all = types_opened (with_openings l.readings) l.types l.indices l.tells l.naming in
    record {
      here : l.at ≡ l.typ-index;
      value : l.made ++ got rest (seen l.walked) ≡ got all (seen l.initial.walked);
      walked : run rest (seen l.walked) ≡ run all (seen l.initial.walked);
    }

abbrev pub invariant-open_readings-loop-reading : goal.invariant-open_readings-loop-reading
invariant-open_readings-loop-reading l =
    let rest = parts_opened l.tells (map opening (drop l.reading-index l.readings)) (drop l.reading-index (namings_of l.naming)) in
    let all = readings_opened l.readings l.tells l.naming in
    record {
      here : l.at ≡ l.reading-index;
      value : l.made ++ got rest (seen l.walked) ≡ got all (seen l.initial.walked);
      walked : run rest (seen l.walked) ≡ run all (seen l.initial.walked);
    }
