use Rattle.std.proofs.Common.{◌≡◌, drop}
use Rattle.value_indices.specs.Walking.{run, seen}
use Rattle.pattern_leaves.specs.Settings.{around_of}
use Rattle.expression_forms.specs.Sizes.{sides_owed}
use Rattle.expression_forms.proofs.sizes.owe_sides.Given as goal

abbrev pub invariant-loop-number : goal.invariant-loop-number
invariant-loop-number l =
    run (sides_owed (around_of l.around) (drop l.number-index l.numbers)) (seen l.walking)
    ≡ run (sides_owed (around_of l.around) l.numbers) (seen l.fn.walking)
