use Rattle.sail_grammar.specs.Table.{codes_of, literals}
use Rattle.sail_grammar.proofs.Steps.{pass_ok, pass_stop}
use Rattle.sail_parse_tp.proofs.PatternRows.{two_takes, literal_takes, literal_stops}
use Rattle.sail_parse_tp.proofs.patterns.expect_literal.Goals as goal

pub returns-in-Some-clause-read : goal.returns-in-Some-clause-read
returns-in-Some-clause-read c = two_takes (codes_of literals) c.in-Some.ensures.read

pub returns-in-None-clause-read : goal.returns-in-None-clause-read
returns-in-None-clause-read c = pass_ok _ c.expect_any.ensures.read (λ x w. literal_takes c.in-None.ensures.read w)

pub returns-in-None-clause-stop : goal.returns-in-None-clause-stop
returns-in-None-clause-stop c = pass_stop _ c.expect_any.ensures.stop (λ e s. literal_stops c.in-None.ensures.read s)
