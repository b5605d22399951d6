use Rattle.std.proofs.Common.{◌≡◌, ◌++◌, drop}
use Rattle.size_values.specs.Hanging.{marked_next}
use Rattle.size_values.proofs.hanging.marked_next.Given as goal

abbrev pub invariant-loop-definition : goal.invariant-loop-definition
invariant-loop-definition l = l.made ++ marked_next (drop l.definition-index l.definitions) l.marks ≡ marked_next l.definitions l.marks
