use Rattle.std.proofs.Common.{sym, ◌∙◌}
use Rattle.sail_grammar.proofs.Steps.{exit_stop, pass_ok, pass_stop, stops_row, stops_first}
use Rattle.sail_parse_parts.proofs.PieceRows.{union_by_clause, union_by_clause_stops, union_in_one}
use Rattle.sail_parse_parts.proofs.PieceRows.{union_in_one_stops}
use Rattle.sail_parse_parts.proofs.pieces.union_definition.Goals as goal

pub returns-in_err-word-clause-stop : goal.returns-in_err-word-clause-stop
returns-in_err-word-clause-stop c = exit_stop _ c.from_residual.ensures.1 (stops_row (stops_first c.in_err-word.ensures.stop))

pub returns-then-sees-clause-read : goal.returns-then-sees-clause-read
returns-then-sees-clause-read c =
    pass_ok _ c.union_clause.ensures.read (λ x r. union_by_clause c.in_ok-word.ensures.read (sym c.sees.ensures ∙ c.if-sees.true) r)

pub returns-then-sees-clause-stop : goal.returns-then-sees-clause-stop
returns-then-sees-clause-stop c =
    pass_stop _ c.union_clause.ensures.stop (λ e s. union_by_clause_stops c.in_ok-word.ensures.read (sym c.sees.ensures ∙ c.if-sees.true) s)

pub returns-else-sees-clause-read : goal.returns-else-sees-clause-read
returns-else-sees-clause-read c =
    pass_ok _ c.union_whole.ensures.read (λ x r. union_in_one c.in_ok-word.ensures.read (sym c.sees.ensures ∙ c.if-sees.false) r)

pub returns-else-sees-clause-stop : goal.returns-else-sees-clause-stop
returns-else-sees-clause-stop c =
    pass_stop _ c.union_whole.ensures.stop (λ e s. union_in_one_stops c.in_ok-word.ensures.read (sym c.sees.ensures ∙ c.if-sees.false) s)
