use Rattle.std.proofs.Common.{◌≡◌, drop, map}
use Rattle.size_values.specs.Numbers.{meant}
use Rattle.told_sizes.specs.Exact.{all_of}
use Rattle.told_sizes.specs.Passing.{reading_passes, value_passes}
use Rattle.told_types.proofs.values.+value_passes.Given as goal

-- the rest decides
abbrev pub invariant-values_pass-loop-part : goal.invariant-values_pass-loop-part
invariant-values_pass-loop-part l =
    all_of (map (value_passes l.types l.own (meant l.variables)) (drop l.part-index l.parts))
    ≡ all_of (map (value_passes l.types l.own (meant l.variables)) l.parts)

abbrev pub invariant-readings_pass-loop-part : goal.invariant-readings_pass-loop-part
invariant-readings_pass-loop-part l =
    all_of (map (reading_passes l.types l.own (meant l.variables)) (drop l.part-index l.parts))
    ≡ all_of (map (reading_passes l.types l.own (meant l.variables)) l.parts)
