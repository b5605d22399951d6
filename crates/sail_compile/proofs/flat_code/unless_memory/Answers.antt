use Rattle.sail_compile.proofs.RunLemmas.{left_without}
use Rattle.sail_compile.proofs.flat_code.unless_memory.Goals as goal

pub returns-in_default : goal.returns-in_default
returns-in_default c = λ core sized sizes why. left_without core sized c.args.error sizes c.in_default.not-Memory why
