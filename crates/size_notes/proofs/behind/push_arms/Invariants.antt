use Rattle.std.proofs.Common.{◌≡◌, ◌++◌, drop}
use Rattle.size_notes.specs.Behind.{arms_sizes}
use Rattle.size_notes.proofs.behind.push_arms.Given as goal

abbrev pub invariant-loop-arm : goal.invariant-loop-arm
invariant-loop-arm l = l.made ++ arms_sizes l.numbers (drop l.arm-index l.arms) ≡ l.fn.made ++ arms_sizes l.numbers l.arms
