use Rattle.std.proofs.Common.{arith}
use Rattle.model_state.proofs.state.State.harts.Goals as goal

pub overflow_cast-result : goal.overflow_cast-result
overflow_cast-result g c = omega (arith, c.self.invariant.few, c.len.ensures)

pub returns-clause-few : goal.returns-clause-few
returns-clause-few g c = omega (arith, c.self.invariant.few, c.len.ensures)
