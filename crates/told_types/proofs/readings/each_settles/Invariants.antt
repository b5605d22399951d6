use Rattle.std.proofs.Common.{◌≡◌, drop}
use Rattle.std.specs.List.{list_all}
use Rattle.size_values.specs.Numbers.{meant}
use Rattle.told_sizes.specs.Exact.{reading_settles}
use Rattle.told_types.proofs.readings.each_settles.Given as goal

-- the rest decides
abbrev pub invariant-loop-part : goal.invariant-loop-part
invariant-loop-part l =
    list_all (reading_settles l.types l.own (meant l.variables)) (drop l.part-index l.parts)
    ≡ list_all (reading_settles l.types l.own (meant l.variables)) l.parts
