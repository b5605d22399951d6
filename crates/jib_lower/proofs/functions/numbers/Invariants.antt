use Rattle.std.proofs.Common.{◌≡◌, map, take}
use Rattle.lowered_steps.specs.Setting.{number_for}
use Rattle.jib_lower.proofs.functions.numbers.Given as goal

abbrev pub invariant-loop-typ : goal.invariant-loop-typ
invariant-loop-typ l = l.numbers ≡ map (number_for l.setting) (take l.typ-index l.types)
