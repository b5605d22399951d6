use Rattle.safe_models.proofs.Registers.{registers_closed}
use Rattle.safe_models.proofs.laws.registers_are_closed.Goals as goal

pub returns : goal.returns
returns c = registers_closed
