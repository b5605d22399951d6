use Rattle.sail_grammar.proofs.Steps.{exit_stop, stops_row, stops_first, stops_next}
use Rattle.sail_parse_parts.proofs.ListRows.{member_all}
use Rattle.sail_parse_parts.proofs.lists.member.Goals as goal

pub returns-in_err-token-clause-stop : goal.returns-in_err-token-clause-stop
returns-in_err-token-clause-stop c = exit_stop _ c.from_residual.ensures.1 (stops_row (stops_first c.in_err-token.ensures.stop))

pub returns-in_err-after_colon-clause-stop : goal.returns-in_err-after_colon-clause-stop
returns-in_err-after_colon-clause-stop c =
    exit_stop _ c.from_residual-in_err-after_colon.ensures.1 (stops_row
    (stops_next c.in_ok-token.ensures.read (stops_first c.in_err-after_colon.ensures.stop)))

pub returns-in_err-typ-clause-stop : goal.returns-in_err-typ-clause-stop
returns-in_err-typ-clause-stop c =
    exit_stop _ c.from_residual-in_err-typ.ensures.1 (stops_row (stops_next c.in_ok-token.ensures.read
    (stops_next c.in_ok-after_colon.ensures.read c.in_err-typ.ensures.stop)))

pub returns-clause-read : goal.returns-clause-read
returns-clause-read c = member_all c.in_ok-token.ensures.read c.in_ok-after_colon.ensures.read c.in_ok-typ.ensures.read c.in_ok-name.ensures
