use Rattle.std.proofs.Common.{◌≡◌}
use Rattle.shape_models.specs.Models.{candidates}
use Rattle.shape_models.proofs.overloads.into_candidates.Given as goal

abbrev pub invariant-loop-one : goal.invariant-loop-one
invariant-loop-one l = l.members ≡ candidates l.yielded
