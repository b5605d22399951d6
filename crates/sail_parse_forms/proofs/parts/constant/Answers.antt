use Rattle.sail_grammar.proofs.Steps.{exit_stop}
use Rattle.sail_parse_forms.proofs.PartRows as P
use Rattle.sail_parse_forms.proofs.parts.constant.Goals as goal

pub returns-in_err-token-clause-stop : goal.returns-in_err-token-clause-stop
returns-in_err-token-clause-stop c = exit_stop _ c.from_residual.ensures.1 c.in_err-token.ensures.stop

pub returns-clause-read : goal.returns-clause-read
returns-clause-read c = P.constant_all c.in_ok-token.ensures.read c.in_ok-literal.ensures c.in_ok-made.ensures
