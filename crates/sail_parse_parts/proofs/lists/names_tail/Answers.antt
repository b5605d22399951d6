use Rattle.std.proofs.Common.{◌++◌, [], ◌∷◌, sym, ◌∙◌, arith}
use Rattle.sail_grammar.proofs.Steps.{exit_stop, onward_step}
use Rattle.sail_parse_parts.proofs.ListRows.{name_more, names_end, names_none, name_more_stops, name_comma_stops}
use Rattle.sail_parse_parts.proofs.ListRows.{name_stops}
use Rattle.sail_parse_parts.proofs.lists.names_tail.Goals as goal

pub returns-in_err-after_comma-clause-stop : goal.returns-in_err-after_comma-clause-stop
returns-in_err-after_comma-clause-stop c =
    exit_stop _ c.from_residual.ensures.1 (c.names.invariant.onward.stops _
    (name_comma_stops (sym c.sees.ensures ∙ c.names-test.true) c.in_err-after_comma.ensures.stop))

pub returns-in_err-token-clause-stop : goal.returns-in_err-token-clause-stop
returns-in_err-token-clause-stop c =
    exit_stop _ c.from_residual-in_err-token.ensures.1 (c.names.invariant.onward.stops _
    (name_stops c.in_ok-after_comma.ensures.read (sym c.sees_identifier.ensures ∙ c.if-sees_identifier.true) c.in_err-token.ensures.stop))

pub names-preserved : goal.names-preserved
names-preserved c = record {
  onward = onward_step c.names.invariant.onward (λ x rest r. name_more c.names.list c.in_ok-after_comma.ensures.read c.in_ok-token.ensures.read
      (c.in_ok-push.ensures.pushed ∙ (λ i. c.names.list ++ c.in_ok-name.ensures i ∷ [])) r)
      (λ e s. name_more_stops c.in_ok-after_comma.ensures.read c.in_ok-token.ensures.read s);
  fewer = omega (arith, c.in_ok-after_comma.ensures.shorter, c.in_ok-token.ensures.shorter, c.names.invariant.fewer);
}

pub returns-else-sees_identifier-clause-read : goal.returns-else-sees_identifier-clause-read
returns-else-sees_identifier-clause-read c =
    c.names.invariant.onward.reads _ _ (names_end c.names.list c.in_ok-after_comma.ensures.read
    (sym c.sees_identifier.ensures ∙ c.if-sees_identifier.false))

pub returns-clause-read : goal.returns-clause-read
returns-clause-read c = c.names.invariant.onward.reads _ _ (names_none c.names.list (sym c.sees.ensures ∙ c.names-test.false))
