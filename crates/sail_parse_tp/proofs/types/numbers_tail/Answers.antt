use Rattle.std.proofs.Common.{refl, sym, ◌∙◌, arith}
use Rattle.sail_grammar.proofs.Steps.{exit_stop, onward_step}
use Rattle.sail_parse_tp.proofs.SetRows.{number_more, numbers_end, numbers_none, number_more_stops, number_comma_stops, number_stops}
use Rattle.sail_parse_tp.proofs.types.numbers_tail.Goals as goal

pub returns-in_err-after_comma-clause-stop : goal.returns-in_err-after_comma-clause-stop
returns-in_err-after_comma-clause-stop c =
    exit_stop _ c.from_residual.ensures.1
    (c.numbers.invariant.onward.stops _ (number_comma_stops (sym c.sees.ensures ∙ c.numbers-test.true) c.in_err-after_comma.ensures.stop))

pub returns-in_err-next-clause-stop : goal.returns-in_err-next-clause-stop
returns-in_err-next-clause-stop c =
    exit_stop _ c.from_residual-in_err-next.ensures.1
    (c.numbers.invariant.onward.stops _
    (number_stops c.in_ok-after_comma.ensures.read (sym c.sees_number.ensures ∙ c.if-sees_number.true) c.in_err-next.ensures.stop))

pub numbers-preserved : goal.numbers-preserved
numbers-preserved c =
    record {
      onward = onward_step c.numbers.invariant.onward
          (λ x rest r. number_more c.numbers.list c.in_ok-after_comma.ensures.read c.in_ok-next.ensures.read refl c.in_ok-push_number.ensures r)
          (λ e s. number_more_stops c.in_ok-after_comma.ensures.read c.in_ok-next.ensures.read s);
      fewer = omega (arith, c.in_ok-after_comma.ensures.shorter, c.in_ok-next.ensures.shorter, c.numbers.invariant.fewer);
    }

pub returns-else-sees_number-clause-read : goal.returns-else-sees_number-clause-read
returns-else-sees_number-clause-read c =
    c.numbers.invariant.onward.reads _ _ (numbers_end c.numbers.list c.in_ok-after_comma.ensures.read (sym c.sees_number.ensures ∙ c.if-sees_number.false))

pub returns-clause-read : goal.returns-clause-read
returns-clause-read c = c.numbers.invariant.onward.reads _ _ (numbers_none c.numbers.list (sym c.sees.ensures ∙ c.numbers-test.false))
