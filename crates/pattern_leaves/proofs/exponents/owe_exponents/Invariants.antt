use Rattle.std.proofs.Common.{◌≡◌, drop}
use Rattle.value_indices.specs.Walking.{run, seen}
use Rattle.pattern_leaves.specs.Settings.{around_of, exponents_owed}
use Rattle.pattern_leaves.proofs.exponents.owe_exponents.Given as goal

abbrev pub invariant-loop-number : goal.invariant-loop-number
invariant-loop-number l =
    run (exponents_owed (around_of l.around) (drop l.number-index l.numbers)) (seen l.walking)
    ≡ run (exponents_owed (around_of l.around) l.numbers) (seen l.fn.walking)
