use Rattle.sail_lex.proofs.OneAnswer.{one_list, one_refusal, not_both}
use Rattle.sail_lex.proofs.Total.{total}
use Rattle.sail_lex.proofs.laws.one_answer.Goals as goal

pub returns-clause-tokens : goal.returns-clause-tokens
returns-clause-tokens c = λ file before source ts us h k. one_list file source 0 before ts us h k

pub returns-clause-refusal : goal.returns-clause-refusal
returns-clause-refusal c = λ file before source e f h k. one_refusal file source 0 before e f h k

pub returns-clause-apart : goal.returns-clause-apart
returns-clause-apart c = λ file before source ts e h k. not_both file source 0 before ts e h k

pub returns-clause-some : goal.returns-clause-some
returns-clause-some c = λ file before source. total file source before
