use Rattle.sail_grammar.proofs.Steps.{exit_stop, stops_row, stops_first, stops_next}
use Rattle.sail_parse_parts.proofs.PieceRows.{union_whole_all}
use Rattle.sail_parse_parts.proofs.pieces.union_whole.Goals as goal

pub returns-in_err-token-clause-stop : goal.returns-in_err-token-clause-stop
returns-in_err-token-clause-stop c = exit_stop _ c.from_residual.ensures.1 (stops_row (stops_first c.in_err-token.ensures.stop))

pub returns-in_err-variables-clause-stop : goal.returns-in_err-variables-clause-stop
returns-in_err-variables-clause-stop c =
    exit_stop _ c.from_residual-in_err-variables.ensures.1 (stops_row
    (stops_next c.in_ok-token.ensures.read (stops_first c.in_err-variables.ensures.stop)))

pub returns-in_err-after_sign-clause-stop : goal.returns-in_err-after_sign-clause-stop
returns-in_err-after_sign-clause-stop c =
    exit_stop _ c.from_residual-in_err-after_sign.ensures.1 (stops_row
    (stops_next c.in_ok-token.ensures.read (stops_next c.in_ok-variables.ensures.read.ends (stops_first c.in_err-after_sign.ensures.stop))))

pub returns-in_err-after_bracket-clause-stop : goal.returns-in_err-after_bracket-clause-stop
returns-in_err-after_bracket-clause-stop c =
    exit_stop _ c.from_residual-in_err-after_bracket.ensures.1 (stops_row
    (stops_next c.in_ok-token.ensures.read (stops_next c.in_ok-variables.ensures.read.ends
    (stops_next c.in_ok-after_sign.ensures.read (stops_first c.in_err-after_bracket.ensures.stop)))))

pub returns-in_err-constructors-clause-stop : goal.returns-in_err-constructors-clause-stop
returns-in_err-constructors-clause-stop c =
    exit_stop _ c.from_residual-in_err-constructors.ensures.1 (stops_row
    (stops_next c.in_ok-token.ensures.read (stops_next c.in_ok-variables.ensures.read.ends
    (stops_next c.in_ok-after_sign.ensures.read (stops_next c.in_ok-after_bracket.ensures.read
    (stops_first c.in_err-constructors.ensures.stop))))))

pub returns-in_err-rest-clause-stop : goal.returns-in_err-rest-clause-stop
returns-in_err-rest-clause-stop c =
    exit_stop _ c.from_residual-in_err-rest.ensures.1 (stops_row (stops_next c.in_ok-token.ensures.read
    (stops_next c.in_ok-variables.ensures.read.ends (stops_next c.in_ok-after_sign.ensures.read
    (stops_next c.in_ok-after_bracket.ensures.read (stops_next c.in_ok-constructors.ensures.read.ends c.in_err-rest.ensures.stop))))))

pub returns-clause-read : goal.returns-clause-read
returns-clause-read c =
    union_whole_all c.args.word.now c.in_ok-token.ensures.read c.in_ok-variables.ensures.read c.in_ok-after_sign.ensures.read
    c.in_ok-after_bracket.ensures.read c.in_ok-constructors.ensures.read c.in_ok-rest.ensures.read c.in_ok-name.ensures
