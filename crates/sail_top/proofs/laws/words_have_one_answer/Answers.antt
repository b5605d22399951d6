use Rattle.sail_compile.specs.Meanings.{jib}
use Rattle.sail_top.proofs.Answered.{some_answer}
use Rattle.sail_top.proofs.EndingLemmas.{one_answer}
use Rattle.sail_top.proofs.laws.words_have_one_answer.Goals as goal

pub returns-clause-some : goal.returns-clause-some
returns-clause-some c = some_answer

pub returns-clause-no_other : goal.returns-clause-no_other
returns-clause-no_other c = one_answer jib
