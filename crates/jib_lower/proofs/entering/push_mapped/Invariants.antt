use Rattle.std.proofs.Common.{◌≡◌, ◌++◌, List, drop}
use Rattle.lowered_steps.specs.declared.setting.Mapped.{Mapped}
use Rattle.jib_lower.specs.Entering.{mapped_from}
use Rattle.jib_lower.proofs.entering.push_mapped.Given as goal

-- what is entered from here on stands behind that so far
abbrev pub invariant-loop-direction : goal.invariant-loop-direction
invariant-loop-direction l = (new : List Mapped) → new ≡ l.all ++ mapped_from l.types l.order l.place (drop l.direction-index l.directions)
    → new ≡ l.initial.all ++ mapped_from l.types l.order l.from l.directions
