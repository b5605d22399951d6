use Rattle.std.proofs.Common.{sym, ◌∙◌, arith}
use Rattle.sail_grammar.proofs.Steps.{exit_stop, onward_step}
use Rattle.sail_parse_parts.proofs.VariableRows.{variable_more, variables_end, variable_stops, variable_more_stops}
use Rattle.sail_parse_parts.proofs.variables.variables.Goals as goal

pub returns-in_err-next-clause-stop : goal.returns-in_err-next-clause-stop
returns-in_err-next-clause-stop c =
    exit_stop _ c.from_residual.ensures.1 (c.variables.invariant.onward.stops _
    (variable_stops (sym c.sees_any.ensures ∙ c.variables-test.true) c.in_err-next.ensures.stop))

pub variables-preserved : goal.variables-preserved
variables-preserved c = record {
  onward = onward_step c.variables.invariant.onward (λ x rest r. variable_more c.variables.list (sym c.sees_any.ensures ∙ c.variables-test.true)
      c.in_ok-next.ensures.read c.in_ok-push.ensures.pushed r) (λ e s. variable_more_stops (sym c.sees_any.ensures ∙ c.variables-test.true)
      c.in_ok-next.ensures.read s);
  fewer = omega (arith, c.in_ok-next.ensures.shorter, c.variables.invariant.fewer);
}

pub returns-clause-read : goal.returns-clause-read
returns-clause-read c = c.variables.invariant.onward.reads _ _ (variables_end c.variables.list (sym c.sees_any.ensures ∙ c.variables-test.false))
