use Rattle.sail_core.proofs.Numbering.{numbers_dont_matter}
use Rattle.sail_core.proofs.laws.numbers_dont_matter.Goals as goal

pub returns : goal.returns
returns c = numbers_dont_matter
