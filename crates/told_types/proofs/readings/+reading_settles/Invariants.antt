use Rattle.std.proofs.Common.{◌≡◌, drop, map}
use Rattle.size_values.specs.Numbers.{meant}
use Rattle.told_sizes.specs.Exact.{all_of, reading_settles}
use Rattle.told_types.proofs.readings.+reading_settles.Given as goal

-- the rest decides
abbrev pub invariant-all_settle-loop-part : goal.invariant-all_settle-loop-part
invariant-all_settle-loop-part l =
    all_of (map (reading_settles l.types l.own (meant l.variables)) (drop l.part-index l.parts))
    ≡ all_of (map (reading_settles l.types l.own (meant l.variables)) l.parts)
