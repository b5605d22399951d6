use Rattle.std.proofs.Common.{◌≡◌, map, take}
use Rattle.checked_meaning.specs.Items.{constant_of}
use Rattle.lowered_steps.proofs.parts.constants_of.Given as goal

abbrev pub invariant-loop-number : goal.invariant-loop-number
invariant-loop-number l = l.constants ≡ map constant_of (take l.number-index l.numbers)
