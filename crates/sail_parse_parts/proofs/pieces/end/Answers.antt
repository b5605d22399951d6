use Rattle.sail_grammar.proofs.Steps.{exit_stop, stops_row, stops_first, stops_next}
use Rattle.sail_parse_parts.proofs.PieceRows.{end_all}
use Rattle.sail_parse_parts.proofs.pieces.end.Goals as goal

pub returns-in_err-word-clause-stop : goal.returns-in_err-word-clause-stop
returns-in_err-word-clause-stop c = exit_stop _ c.from_residual.ensures.1 (stops_row (stops_first c.in_err-word.ensures.stop))

pub returns-in_err-token-clause-stop : goal.returns-in_err-token-clause-stop
returns-in_err-token-clause-stop c =
    exit_stop _ c.from_residual-in_err-token.ensures.1 (stops_row (stops_next c.in_ok-word.ensures.read c.in_err-token.ensures.stop))

pub returns-clause-read : goal.returns-clause-read
returns-clause-read c = end_all c.in_ok-word.ensures.read c.in_ok-token.ensures.read c.in_ok-name.ensures
