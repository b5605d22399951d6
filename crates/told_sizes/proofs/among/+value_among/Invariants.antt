use Rattle.std.proofs.Common.{◌≡◌, drop, map}
use Rattle.size_values.specs.Numbers.{meant}
use Rattle.told_sizes.specs.Among.{has_in, reading_among, value_among}
use Rattle.told_sizes.specs.Exact.{all_of}
use Rattle.told_sizes.proofs.among.+value_among.Given as goal

-- the rest decides
abbrev pub invariant-values_among-loop-part : goal.invariant-values_among-loop-part
invariant-values_among-loop-part l =
    all_of (map (value_among l.types (has_in (meant l.variables))) (drop l.part-index l.parts))
    ≡ all_of (map (value_among l.types (has_in (meant l.variables))) l.parts)

abbrev pub invariant-readings_among-loop-part : goal.invariant-readings_among-loop-part
invariant-readings_among-loop-part l =
    all_of (map (reading_among l.types (has_in (meant l.variables))) (drop l.part-index l.parts))
    ≡ all_of (map (reading_among l.types (has_in (meant l.variables))) l.parts)
