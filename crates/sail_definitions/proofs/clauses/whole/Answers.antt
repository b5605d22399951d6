use Rattle.sail_grammar.proofs.Steps.{exit_stop, stops_row, stops_first, stops_next}
use Rattle.sail_definitions.proofs.ClauseRows.{whole_all}
use Rattle.sail_definitions.proofs.clauses.whole.Goals as goal

pub returns-in_err-token-clause-stop : goal.returns-in_err-token-clause-stop
returns-in_err-token-clause-stop c = exit_stop _ c.from_residual.ensures.1 (stops_row (stops_first c.in_err-token.ensures.stop))

pub returns-in_err-sides-clause-stop : goal.returns-in_err-sides-clause-stop
returns-in_err-sides-clause-stop c =
    exit_stop _ c.from_residual-in_err-sides.ensures.1 (stops_row (stops_next c.in_ok-token.ensures.read (stops_first c.in_err-sides.ensures.stop)))

pub returns-in_err-after_sign-clause-stop : goal.returns-in_err-after_sign-clause-stop
returns-in_err-after_sign-clause-stop c =
    exit_stop _ c.from_residual-in_err-after_sign.ensures.1 (stops_row
    (stops_next c.in_ok-token.ensures.read (stops_next c.in_ok-sides.ensures.read.ends (stops_first c.in_err-after_sign.ensures.stop))))

pub returns-in_err-after_bracket-clause-stop : goal.returns-in_err-after_bracket-clause-stop
returns-in_err-after_bracket-clause-stop c =
    exit_stop _ c.from_residual-in_err-after_bracket.ensures.1 (stops_row
    (stops_next c.in_ok-token.ensures.read (stops_next c.in_ok-sides.ensures.read.ends
    (stops_next c.in_ok-after_sign.ensures.read (stops_first c.in_err-after_bracket.ensures.stop)))))

pub returns-in_err-clauses-clause-stop : goal.returns-in_err-clauses-clause-stop
returns-in_err-clauses-clause-stop c =
    exit_stop _ c.from_residual-in_err-clauses.ensures.1 (stops_row (stops_next c.in_ok-token.ensures.read
    (stops_next c.in_ok-sides.ensures.read.ends (stops_next c.in_ok-after_sign.ensures.read
    (stops_next c.in_ok-after_bracket.ensures.read c.in_err-clauses.ensures.stop)))))

pub returns-clause-read : goal.returns-clause-read
returns-clause-read c =
    whole_all c.args.word.now c.in_ok-token.ensures.read c.in_ok-sides.ensures.read c.in_ok-after_sign.ensures.read c.in_ok-after_bracket.ensures.read
    c.in_ok-clauses.ensures.read c.in_ok-name.ensures
