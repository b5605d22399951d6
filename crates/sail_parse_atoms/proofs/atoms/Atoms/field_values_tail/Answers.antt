use Rattle.std.proofs.Common.{sym, ◌∙◌, arith}
use Rattle.sail_grammar.proofs.Steps.{exit_stop, onward_start, onward_step}
use Rattle.sail_parse_atoms.proofs.BlockRows as B
use Rattle.sail_parse_atoms.proofs.atoms.Atoms.field_values_tail.Goals as goal

pub returns-in_err-after_comma-clause-stop : goal.returns-in_err-after_comma-clause-stop
returns-in_err-after_comma-clause-stop g c =
    exit_stop _ c.from_residual.ensures.1 (c.values.invariant.onward.stops _ (B.values_comma_stops (sym c.sees.ensures ∙ c.values-test.true)
    c.in_err-after_comma.ensures.stop))

pub returns-in_err-next-clause-stop : goal.returns-in_err-next-clause-stop
returns-in_err-next-clause-stop g c =
    exit_stop _ c.from_residual-in_err-next.ensures.1 (c.values.invariant.onward.stops _
    (B.value_stops c.in_ok-after_comma.ensures.read (sym c.sees_identifier.ensures ∙ c.if-sees_identifier.true) c.in_err-next.ensures.stop))

pub values-init : goal.values-init
values-init g c = record { onward = onward_start _ _ _ _; fewer = omega arith }

pub values-preserved : goal.values-preserved
values-preserved g c = record {
  onward = onward_step c.values.invariant.onward (λ x rest r. B.values_more c.values.list c.in_ok-after_comma.ensures.read
      (sym c.sees_identifier.ensures ∙ c.if-sees_identifier.true) c.in_ok-next.ensures.read c.in_ok-push.ensures.pushed r)
      (λ e s. B.values_more_stops c.in_ok-after_comma.ensures.read (sym c.sees_identifier.ensures ∙ c.if-sees_identifier.true) c.in_ok-next.ensures.read s);
  fewer = omega (arith, c.in_ok-after_comma.ensures.shorter, c.in_ok-next.ensures.shorter, c.values.invariant.fewer);
}

pub returns-else-sees_identifier-clause-read : goal.returns-else-sees_identifier-clause-read
returns-else-sees_identifier-clause-read g c =
    c.values.invariant.onward.reads _ _ (B.values_last c.values.list c.in_ok-after_comma.ensures.read
    (sym c.sees_identifier.ensures ∙ c.if-sees_identifier.false))

pub returns-clause-read : goal.returns-clause-read
returns-clause-read g c = c.values.invariant.onward.reads _ _ (B.values_none c.values.list (sym c.sees.ensures ∙ c.values-test.false))
