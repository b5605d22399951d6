use Rattle.std.proofs.Common.{refl}
use Rattle.jib_lower.proofs.instances.setting_of.Goals as goal

pub returns : goal.returns
returns c = record {
  types = refl;
  numbered = refl;
  bodies_are = refl;
  numbers_are = refl;
  reads_are = refl;
  directions_are = refl;
  nothing = refl;
  truths = refl;
  unit = c.in_ok-unit.ensures;
  truth = c.in_ok-truth.ensures;
  integer = c.in_ok-integer.ensures;
  exception = c.in_ok-exception.ensures;
}
