use Rattle.std.proofs.Common.{refl}
use Rattle.jib_lower.proofs.lowering.model_by.Goals as goal

pub returns-clause-is : goal.returns-clause-is
returns-clause-is c = record {
  of_core = refl;
  of_sized = refl;
  numbered = c.as_slice-numbered.ensures;
  shell = refl;
  exception = refl;
  nothing = refl;
  truths = refl;
  called = c.as_slice-called.ensures;
  directions = c.as_slice-directions.ensures;
  turned = c.as_slice-turned.ensures;
  order = c.as_slice-order.ensures;
  before = refl;
}
