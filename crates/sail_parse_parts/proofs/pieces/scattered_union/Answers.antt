use Rattle.sail_grammar.proofs.Steps.{exit_stop, stops_first, stops_next}
use Rattle.sail_parse_parts.proofs.PieceRows.{scattered_union_all}
use Rattle.sail_parse_parts.proofs.pieces.scattered_union.Goals as goal

pub returns-in_err-after_union-clause-stop : goal.returns-in_err-after_union-clause-stop
returns-in_err-after_union-clause-stop c = exit_stop _ c.from_residual.ensures.1 (stops_first c.in_err-after_union.ensures.stop)

pub returns-in_err-token-clause-stop : goal.returns-in_err-token-clause-stop
returns-in_err-token-clause-stop c =
    exit_stop _ c.from_residual-in_err-token.ensures.1 (stops_next c.in_ok-after_union.ensures.read (stops_first c.in_err-token.ensures.stop))

pub returns-in_err-parameters-clause-stop : goal.returns-in_err-parameters-clause-stop
returns-in_err-parameters-clause-stop c =
    exit_stop _ c.from_residual-in_err-parameters.ensures.1 (stops_next c.in_ok-after_union.ensures.read
    (stops_next c.in_ok-token.ensures.read c.in_err-parameters.ensures.stop))

pub returns-clause-read : goal.returns-clause-read
returns-clause-read c =
    scattered_union_all c.args.first.now c.in_ok-after_union.ensures.read c.in_ok-token.ensures.read c.in_ok-parameters.ensures.read
    c.in_ok-name.ensures
