use Rattle.std.proofs.Common.{◌≡◌, drop}
use Rattle.shape_declarations.specs.Zeros.{all_zeroed}
use Rattle.shape_declarations.proofs.zeros.all_zeroed.Given as goal

abbrev pub invariant-loop-part : goal.invariant-loop-part
invariant-loop-part l = all_zeroed (drop l.part-index l.parts) ≡ all_zeroed l.parts
