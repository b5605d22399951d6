use Rattle.std.proofs.Common.{◌≡◌, ◌++◌, drop}
use Rattle.size_notes.specs.Reading.{steps_behind}
use Rattle.size_notes.proofs.steps.push_sizes.Given as goal

abbrev pub invariant-loop-one : goal.invariant-loop-one
invariant-loop-one l = l.steps ++ steps_behind l.number (drop l.one-index l.behind) ≡ l.fn.steps ++ steps_behind l.number l.behind
