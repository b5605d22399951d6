use Rattle.std.proofs.Common.{◌≡◌, drop}
use Rattle.size_values.specs.Numbers.{known_of, with_picked}
use Rattle.size_values.proofs.variables.known_number.Given as goal

abbrev pub invariant-loop-pick : goal.invariant-loop-pick
invariant-loop-pick l =
    with_picked (known_of l.numbers) (drop l.pick-index l.picked) l.variable ≡ with_picked (known_of l.numbers) l.picked l.variable
