use Rattle.sail_parse_tp.proofs.PatternRows.{constant_all}
use Rattle.sail_parse_tp.proofs.patterns.constant.Goals as goal

pub returns-clause-read : goal.returns-clause-read
returns-clause-read c = constant_all c.in_ok-token.ensures.read c.in_ok-literal.ensures
