use Rattle.core_numbers.proofs.Differ.{numbers_differ}
use Rattle.core_numbers.proofs.laws.numbers_differ.Goals as goal

pub returns : goal.returns
returns c = numbers_differ
