use Rattle.sail_grammar.proofs.Steps.{exit_stop, stops_row, stops_first, stops_next}
use Rattle.sail_definitions.proofs.DefinitionRows.{overload_all}
use Rattle.sail_definitions.proofs.definition.overload.Goals as goal

pub returns-in_err-word-clause-stop : goal.returns-in_err-word-clause-stop
returns-in_err-word-clause-stop c = exit_stop _ c.from_residual.ensures.1 (stops_row (stops_first c.in_err-word.ensures.stop))

pub returns-in_err-what-clause-stop : goal.returns-in_err-what-clause-stop
returns-in_err-what-clause-stop c =
    exit_stop _ c.from_residual-in_err-what.ensures.1 (stops_row (stops_next c.in_ok-word.ensures.read (stops_first c.in_err-what.ensures.stop)))

pub returns-in_err-after_sign-clause-stop : goal.returns-in_err-after_sign-clause-stop
returns-in_err-after_sign-clause-stop c =
    exit_stop _ c.from_residual-in_err-after_sign.ensures.1 (stops_row
    (stops_next c.in_ok-word.ensures.read (stops_next c.in_ok-what.ensures.read.ends (stops_first c.in_err-after_sign.ensures.stop))))

pub returns-in_err-after_bracket-clause-stop : goal.returns-in_err-after_bracket-clause-stop
returns-in_err-after_bracket-clause-stop c =
    exit_stop _ c.from_residual-in_err-after_bracket.ensures.1 (stops_row
    (stops_next c.in_ok-word.ensures.read (stops_next c.in_ok-what.ensures.read.ends
    (stops_next c.in_ok-after_sign.ensures.read (stops_first c.in_err-after_bracket.ensures.stop)))))

pub returns-in_err-members-clause-stop : goal.returns-in_err-members-clause-stop
returns-in_err-members-clause-stop c =
    exit_stop _ c.from_residual-in_err-members.ensures.1 (stops_row (stops_next c.in_ok-word.ensures.read
    (stops_next c.in_ok-what.ensures.read.ends (stops_next c.in_ok-after_sign.ensures.read
    (stops_next c.in_ok-after_bracket.ensures.read (stops_first c.in_err-members.ensures.stop))))))

pub returns-in_err-rest-clause-stop : goal.returns-in_err-rest-clause-stop
returns-in_err-rest-clause-stop c =
    exit_stop _ c.from_residual-in_err-rest.ensures.1 (stops_row (stops_next c.in_ok-word.ensures.read
    (stops_next c.in_ok-what.ensures.read.ends (stops_next c.in_ok-after_sign.ensures.read
    (stops_next c.in_ok-after_bracket.ensures.read (stops_next c.in_ok-members.ensures.read.ends c.in_err-rest.ensures.stop))))))

pub returns-clause-read : goal.returns-clause-read
returns-clause-read c =
    overload_all c.in_ok-word.ensures.read c.in_ok-what.ensures.read c.in_ok-after_sign.ensures.read c.in_ok-after_bracket.ensures.read
    c.in_ok-members.ensures.read c.in_ok-rest.ensures.read
