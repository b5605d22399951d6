use Rattle.std.proofs.Common.{◌≡◌, ◌++◌, drop}
use Rattle.call_notes.specs.Rows.{conditions_in}
use Rattle.call_notes.proofs.numbers.Numbers.conditions.Given as goal

abbrev pub invariant-loop-con : goal.invariant-loop-con
invariant-loop-con l = l.made ++ conditions_in l.self (drop l.con-index l.cons) ≡ conditions_in l.self l.cons
