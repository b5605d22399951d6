use Rattle.std.proofs.Common.{sym, ◌∙◌, arith}
use Rattle.sail_grammar.proofs.Steps.{exit_stop, stops_row, stops_first, more_stops, onward_step}
use Rattle.sail_parse_parts.proofs.VariableRows.{parameter_more, parameters_end, parameter_more_stops}
use Rattle.sail_parse_parts.proofs.VariableRows.{parameter_comma_stops}
use Rattle.sail_parse_parts.proofs.variables.parameters_tail.Goals as goal

pub returns-in_err-after_comma-clause-stop : goal.returns-in_err-after_comma-clause-stop
returns-in_err-after_comma-clause-stop c =
    exit_stop _ c.from_residual.ensures.1 (c.parameters.invariant.onward.stops _
    (parameter_comma_stops (sym c.sees.ensures ∙ c.parameters-test.true) c.in_err-after_comma.ensures.stop))

pub returns-in_err-next-clause-stop : goal.returns-in_err-next-clause-stop
returns-in_err-next-clause-stop c =
    exit_stop _ c.from_residual-in_err-next.ensures.1 (c.parameters.invariant.onward.stops _
    (stops_row (more_stops c.in_ok-after_comma.ensures.read (stops_first c.in_err-next.ensures.stop))))

pub parameters-preserved : goal.parameters-preserved
parameters-preserved c = record {
  onward = onward_step c.parameters.invariant.onward (λ x rest r. parameter_more c.parameters.list c.in_ok-after_comma.ensures.read
      c.in_ok-next.ensures.read c.in_ok-push.ensures.pushed r) (λ e s. parameter_more_stops c.in_ok-after_comma.ensures.read c.in_ok-next.ensures.read
      s);
  fewer = omega (arith, c.in_ok-after_comma.ensures.shorter, c.in_ok-next.ensures.shorter, c.parameters.invariant.fewer);
}

pub returns-clause-read : goal.returns-clause-read
returns-clause-read c = c.parameters.invariant.onward.reads _ _ (parameters_end c.parameters.list (sym c.sees.ensures ∙ c.parameters-test.false))
