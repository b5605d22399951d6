use Rattle.sail_compile.proofs.HoldLemmas.{accepted_hold}
use Rattle.sail_compile.proofs.laws.obligations_of_accepted_texts_hold.Goals as goal

pub returns : goal.returns
returns c = accepted_hold
