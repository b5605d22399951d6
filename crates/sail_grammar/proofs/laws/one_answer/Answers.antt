use Rattle.sail_grammar.proofs.Clear.{grammar_clear}
use Rattle.sail_grammar.proofs.Model.{one_model, not_refused, one_first_unfit}
use Rattle.sail_grammar.proofs.laws.one_answer.Goals as goal

pub returns-clause-clear : goal.returns-clause-clear
returns-clause-clear c = grammar_clear

pub returns-clause-model : goal.returns-clause-model
returns-clause-model c = λ ss a b m n. one_model ss a b m n

pub returns-clause-unfit : goal.returns-clause-unfit
returns-clause-unfit c = λ ss k n f h. one_first_unfit ss k n f h

pub returns-clause-apart : goal.returns-clause-apart
returns-clause-apart c = λ ss a end e m r. not_refused ss a end e m r
