use Rattle.std.proofs.Common.{◌≡◌, drop}
use Rattle.std.specs.List.{list_any}
use Rattle.size_values.specs.Numbers.{meant}
use Rattle.size_splits.specs.Sizing.{is_open_reading}
use Rattle.size_splits.proofs.given.is_open_in_readings.Given as goal

-- the rest decides
abbrev pub invariant-loop-reading : goal.invariant-loop-reading
invariant-loop-reading l =
    list_any (is_open_reading l.types (meant l.variables)) (drop l.reading-index l.readings)
    ≡ list_any (is_open_reading l.types (meant l.variables)) l.readings
