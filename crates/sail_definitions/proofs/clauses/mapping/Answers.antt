use Rattle.std.proofs.Common.{sym, ◌∙◌}
use Rattle.sail_grammar.proofs.Steps.{exit_stop, pass_ok, pass_stop, stops_row, stops_first}
use Rattle.sail_definitions.proofs.ClauseRows.{mapping_by_clause, mapping_by_clause_stops, mapping_whole}
use Rattle.sail_definitions.proofs.ClauseRows.{mapping_whole_stops}
use Rattle.sail_definitions.proofs.clauses.mapping.Goals as goal

pub returns-in_err-word-clause-stop : goal.returns-in_err-word-clause-stop
returns-in_err-word-clause-stop c = exit_stop _ c.from_residual.ensures.1 (stops_row (stops_first c.in_err-word.ensures.stop))

pub returns-then-sees-clause-read : goal.returns-then-sees-clause-read
returns-then-sees-clause-read c =
    pass_ok _ c.clause_definition.ensures.read (λ x r. mapping_by_clause c.in_ok-word.ensures.read (sym c.sees.ensures ∙ c.if-sees.true) r)

pub returns-then-sees-clause-stop : goal.returns-then-sees-clause-stop
returns-then-sees-clause-stop c =
    pass_stop _ c.clause_definition.ensures.stop (λ e s. mapping_by_clause_stops c.in_ok-word.ensures.read (sym c.sees.ensures ∙ c.if-sees.true) s)

pub returns-else-sees-clause-read : goal.returns-else-sees-clause-read
returns-else-sees-clause-read c =
    pass_ok _ c.whole.ensures.read (λ x r. mapping_whole c.in_ok-word.ensures.read (sym c.sees.ensures ∙ c.if-sees.false) r)

pub returns-else-sees-clause-stop : goal.returns-else-sees-clause-stop
returns-else-sees-clause-stop c =
    pass_stop _ c.whole.ensures.stop (λ e s. mapping_whole_stops c.in_ok-word.ensures.read (sym c.sees.ensures ∙ c.if-sees.false) s)
