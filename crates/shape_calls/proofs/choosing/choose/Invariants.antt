use Rattle.std.proofs.Common.{◌≡◌, drop}
use Rattle.shape_rules.specs.Calls.{chosen}
use Rattle.shape_calls.proofs.choosing.choose.Given as goal

abbrev pub invariant-loop-candidate : goal.invariant-loop-candidate
invariant-loop-candidate l = chosen (drop l.candidate-index l.candidates) l.shapes ≡ chosen l.candidates l.shapes
