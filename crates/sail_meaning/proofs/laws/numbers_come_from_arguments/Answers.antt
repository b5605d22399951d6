use Rattle.sail_meaning.proofs.Clauses.{numbers_come_from_widths}
use Rattle.sail_meaning.proofs.laws.numbers_come_from_arguments.Goals as goal

pub returns : goal.returns
returns c = numbers_come_from_widths
