use Rattle.std.proofs.Common.{◌≡◌, drop}
use Rattle.monomorph.specs.Reading.{inside_of}
use Rattle.tabled_cores.specs.Notes.{readings_pass}
use Rattle.tabled_cores.proofs.sizes.readings_pass.Given as goal

-- the rest decides
abbrev pub invariant-loop-reading : goal.invariant-loop-reading
invariant-loop-reading l =
    readings_pass (inside_of l.inside) l.picked (drop l.reading-index l.readings) ≡ readings_pass (inside_of l.inside) l.picked l.readings
