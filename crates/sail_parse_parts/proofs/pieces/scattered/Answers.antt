use Rattle.std.proofs.Common.{sym, ◌∙◌}
use Rattle.sail_grammar.proofs.Steps.{exit_stop, pass_ok, pass_stop, stops_row, stops_first}
use Rattle.sail_parse_parts.proofs.PieceRows.{scattered_as_union, scattered_as_union_stops, scattered_as_function}
use Rattle.sail_parse_parts.proofs.PieceRows.{scattered_as_function_stops, scattered_as_mapping}
use Rattle.sail_parse_parts.proofs.PieceRows.{scattered_as_mapping_stops}
use Rattle.sail_parse_parts.proofs.pieces.scattered.Goals as goal

pub returns-in_err-word-clause-stop : goal.returns-in_err-word-clause-stop
returns-in_err-word-clause-stop c = exit_stop _ c.from_residual.ensures.1 (stops_row (stops_first c.in_err-word.ensures.stop))

pub returns-then-sees-clause-read : goal.returns-then-sees-clause-read
returns-then-sees-clause-read c =
    pass_ok _ c.scattered_union.ensures.read (λ x r. scattered_as_union c.in_ok-word.ensures.read (sym c.sees.ensures ∙ c.if-sees.true) r)

pub returns-then-sees-clause-stop : goal.returns-then-sees-clause-stop
returns-then-sees-clause-stop c =
    pass_stop _ c.scattered_union.ensures.stop (λ e s. scattered_as_union_stops c.in_ok-word.ensures.read (sym c.sees.ensures ∙ c.if-sees.true) s)

pub returns-then-sees-2-clause-read : goal.returns-then-sees-2-clause-read
returns-then-sees-2-clause-read c =
    pass_ok _ c.scattered_function.ensures.read (λ x r. scattered_as_function c.in_ok-word.ensures.read
    (sym c.sees-else-sees.ensures ∙ c.if-sees-2.true) r)

pub returns-then-sees-2-clause-stop : goal.returns-then-sees-2-clause-stop
returns-then-sees-2-clause-stop c =
    pass_stop _ c.scattered_function.ensures.stop (λ e s. scattered_as_function_stops c.in_ok-word.ensures.read
    (sym c.sees-else-sees.ensures ∙ c.if-sees-2.true) s)

pub returns-else-sees-2-clause-read : goal.returns-else-sees-2-clause-read
returns-else-sees-2-clause-read c =
    pass_ok _ c.scattered_mapping.ensures.read (λ x r. scattered_as_mapping c.in_ok-word.ensures.read (sym c.sees.ensures ∙ c.if-sees.false)
    (sym c.sees-else-sees.ensures ∙ c.if-sees-2.false) r)

pub returns-else-sees-2-clause-stop : goal.returns-else-sees-2-clause-stop
returns-else-sees-2-clause-stop c =
    pass_stop _ c.scattered_mapping.ensures.stop (λ e s. scattered_as_mapping_stops c.in_ok-word.ensures.read (sym c.sees.ensures ∙ c.if-sees.false)
    (sym c.sees-else-sees.ensures ∙ c.if-sees-2.false) s)
