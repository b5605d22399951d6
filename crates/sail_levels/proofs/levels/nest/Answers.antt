use Rattle.sail_grammar.specs.Symbol.{code}
use Rattle.sail_levels.proofs.levels.nest.Goals as goal

pub returns-clause-nested : goal.returns-clause-nested
returns-clause-nested c = λ i. record (c.in_ok-counted.ensures.counted i) { before = code c.args.kind }
