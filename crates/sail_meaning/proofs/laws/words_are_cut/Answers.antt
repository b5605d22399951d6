use Rattle.sail_meaning.proofs.Words.{high_bits_first, rest_is_taken}
use Rattle.sail_meaning.proofs.laws.words_are_cut.Goals as goal

pub returns-clause-known : goal.returns-clause-known
returns-clause-known c = high_bits_first

pub returns-clause-rest : goal.returns-clause-rest
returns-clause-rest c = rest_is_taken
