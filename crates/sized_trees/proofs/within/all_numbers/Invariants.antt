use Rattle.std.proofs.Common.{◌≡◌, drop}
use Rattle.std.specs.List.{list_all}
use Rattle.sized_trees.specs.Within.{is_number}
use Rattle.sized_trees.proofs.within.all_numbers.Given as goal

-- the rest decides
abbrev pub invariant-loop-constant : goal.invariant-loop-constant
invariant-loop-constant l = list_all is_number (drop l.constant-index l.constants) ≡ list_all is_number l.constants
