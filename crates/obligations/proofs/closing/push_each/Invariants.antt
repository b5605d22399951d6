use Rattle.std.proofs.Common.{◌≡◌, drop, map}
use Rattle.std.specs.List.{fold}
use Rattle.linear.specs.Choices.{with_atom, joined, variables_in}
use Rattle.obligations.proofs.closing.push_each.Given as goal

abbrev pub invariant-loop-con : goal.invariant-loop-con
invariant-loop-con l = fold with_atom l.atoms (joined (map variables_in (drop l.con-index l.cons))) ≡ fold with_atom l.fn.atoms
    (joined (map variables_in l.cons))
