use Rattle.std.proofs.Common.{◌≡◌, ◌++◌, map, drop}
use Rattle.value_indices.specs.Walking.{got, run, seen}
use Rattle.pattern_notes.specs.Patterns.{look, named_readings, all_taken}
use Rattle.pattern_notes.proofs.taking.take_all.Given as goal

abbrev pub invariant-loop-index : goal.invariant-loop-index
invariant-loop-index l =
    let rest = all_taken l.place (named_readings (map look (drop l.index l.parts)) (drop l.index l.readings)) in
    let all = all_taken l.place (named_readings (map look l.parts) l.readings) in
    record {
      taken : l.taken ++ got rest (seen l.walking) ≡ got all (seen l.fn.walking);
      walked : run rest (seen l.walking) ≡ run all (seen l.fn.walking);
    }
