use Rattle.std.proofs.Common.{◌≡◌, drop, map}
use Rattle.std.specs.List.{fold}
use Rattle.linear.specs.Choices.{with_atom, joined, variables_in}
use Rattle.linear.proofs.variables.+variables.Given as goal

abbrev pub invariant-push_all_variables-loop-con : goal.invariant-push_all_variables-loop-con
invariant-push_all_variables-loop-con l = fold with_atom l.atoms (joined (map variables_in (drop l.con-index l.cons))) ≡ fold with_atom l.fn.atoms
    (joined (map variables_in l.cons))
