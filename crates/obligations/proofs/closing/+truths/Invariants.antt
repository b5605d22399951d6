use Rattle.std.proofs.Common.{◌≡◌, drop, map}
use Rattle.std.specs.List.{fold}
use Rattle.linear.specs.Choices.{with_atom, joined}
use Rattle.obligations.specs.Closing.{truths_in}
use Rattle.obligations.proofs.closing.+truths.Given as goal

abbrev pub invariant-push_all_truths-loop-con : goal.invariant-push_all_truths-loop-con
invariant-push_all_truths-loop-con l = fold with_atom l.atoms (joined (map truths_in (drop l.con-index l.cons))) ≡ fold with_atom l.fn.atoms
    (joined (map truths_in l.cons))
