use Rattle.std.proofs.Common.{sym, ◌∙◌, arith}
use Rattle.sail_grammar.proofs.Steps.{exit_stop, onward_start, onward_step}
use Rattle.sail_parse_expr.proofs.OperatorRows as O
use Rattle.sail_parse_expr.proofs.expressions.Rows.suffixes.Goals as goal

pub returns-in_err-next-clause-stop : goal.returns-in_err-next-clause-stop
returns-in_err-next-clause-stop g c =
    exit_stop _ c.from_residual.ensures.1 (c.suffixes.invariant.onward.stops _ (O.suffix_stops (sym c.sees_any.ensures ∙ c.suffixes-test.true)
    c.in_err-next.ensures.stop))

pub suffixes-init : goal.suffixes-init
suffixes-init g c = record { onward = onward_start _ _ _ _; fewer = omega arith }

pub suffixes-preserved : goal.suffixes-preserved
suffixes-preserved g c = record {
  onward = onward_step c.suffixes.invariant.onward (λ x rest r. O.suffix_more c.suffixes.list (sym c.sees_any.ensures ∙ c.suffixes-test.true)
      c.in_ok-next.ensures.read c.in_ok-push.ensures.pushed r) (λ e s. O.suffix_more_stops (sym c.sees_any.ensures ∙ c.suffixes-test.true)
      c.in_ok-next.ensures.read s);
  fewer = omega (arith, c.in_ok-next.ensures.shorter, c.suffixes.invariant.fewer);
}

pub returns-clause-read : goal.returns-clause-read
returns-clause-read g c = c.suffixes.invariant.onward.reads _ _ (O.suffixes_none c.suffixes.list (sym c.sees_any.ensures ∙ c.suffixes-test.false))
