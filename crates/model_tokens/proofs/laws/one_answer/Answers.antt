use Rattle.model_tokens.proofs.OneAnswer.{answered, one_lexing, one_refused, never_both}
use Rattle.model_tokens.proofs.laws.one_answer.Goals as goal

pub returns-clause-some : goal.returns-clause-some
returns-clause-some c = λ texts. answered texts 1 0

pub returns-clause-tokens : goal.returns-clause-tokens
returns-clause-tokens c = λ texts all others is other. one_lexing texts 1 0 all others is other

pub returns-clause-refusal : goal.returns-clause-refusal
returns-clause-refusal c = λ texts e f is other. one_refused texts 1 0 e f is other

pub returns-clause-apart : goal.returns-clause-apart
returns-clause-apart c = λ texts all e is other. never_both texts 1 0 all e is other
