use Rattle.sail_meaning.proofs.Sentences.{vars_are_read_anew}
use Rattle.sail_meaning.proofs.laws.vars_are_read_anew.Goals as goal

pub returns : goal.returns
returns c = vars_are_read_anew
