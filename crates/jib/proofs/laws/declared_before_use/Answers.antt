use Rattle.jib.proofs.Declares as Declares
use Rattle.jib.proofs.laws.declared_before_use.Goals as goal

pub returns : goal.returns
returns c = Declares.declared_before_use
