use Rattle.std.proofs.Common.{◌≡◌, drop, length}
use Rattle.jib_lower.specs.Functions.{are_types}
use Rattle.jib_lower.proofs.functions.are_numbers.Given as goal

abbrev pub invariant-loop-typ : goal.invariant-loop-typ
invariant-loop-typ l = are_types (length l.setting.numbered.now) (drop l.typ-index l.types) ≡ are_types (length l.setting.numbered.now) l.types
