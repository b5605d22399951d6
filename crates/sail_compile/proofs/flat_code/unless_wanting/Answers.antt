use Rattle.sail_compile.proofs.RunLemmas.{left_unsized}
use Rattle.sail_compile.proofs.flat_code.unless_wanting.Goals as goal

pub returns-in_default : goal.returns-in_default
returns-in_default c = λ core met. left_unsized core c.args.error.now met c.in_default.not-OutOfMemory
