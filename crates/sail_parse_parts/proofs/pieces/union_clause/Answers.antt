use Rattle.sail_grammar.proofs.Steps.{exit_stop, stops_row, stops_first, stops_next}
use Rattle.sail_parse_parts.proofs.PieceRows.{union_clause_all}
use Rattle.sail_parse_parts.proofs.pieces.union_clause.Goals as goal

pub returns-in_err-after_clause-clause-stop : goal.returns-in_err-after_clause-clause-stop
returns-in_err-after_clause-clause-stop c = exit_stop _ c.from_residual.ensures.1 (stops_row (stops_first c.in_err-after_clause.ensures.stop))

pub returns-in_err-token-clause-stop : goal.returns-in_err-token-clause-stop
returns-in_err-token-clause-stop c =
    exit_stop _ c.from_residual-in_err-token.ensures.1 (stops_row (stops_next c.in_ok-after_clause.ensures.read
    (stops_first c.in_err-token.ensures.stop)))

pub returns-in_err-after_sign-clause-stop : goal.returns-in_err-after_sign-clause-stop
returns-in_err-after_sign-clause-stop c =
    exit_stop _ c.from_residual-in_err-after_sign.ensures.1 (stops_row
    (stops_next c.in_ok-after_clause.ensures.read (stops_next c.in_ok-token.ensures.read (stops_first c.in_err-after_sign.ensures.stop))))

pub returns-in_err-member-clause-stop : goal.returns-in_err-member-clause-stop
returns-in_err-member-clause-stop c =
    exit_stop _ c.from_residual-in_err-member.ensures.1 (stops_row (stops_next c.in_ok-after_clause.ensures.read
    (stops_next c.in_ok-token.ensures.read (stops_next c.in_ok-after_sign.ensures.read c.in_err-member.ensures.stop))))

pub returns-clause-read : goal.returns-clause-read
returns-clause-read c =
    union_clause_all c.args.word.now c.in_ok-after_clause.ensures.read c.in_ok-token.ensures.read c.in_ok-after_sign.ensures.read
    c.in_ok-member.ensures.read c.in_ok-name.ensures
