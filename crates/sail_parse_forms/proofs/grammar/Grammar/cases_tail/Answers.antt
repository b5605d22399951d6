use Rattle.std.proofs.Common.{sym, ◌∙◌, arith}
use Rattle.sail_grammar.proofs.Steps.{exit_stop, onward_start, onward_step}
use Rattle.sail_parse_forms.proofs.FormRows as E
use Rattle.sail_parse_forms.proofs.grammar.Grammar.cases_tail.Goals as goal

pub returns-in_err-after_comma-clause-stop : goal.returns-in_err-after_comma-clause-stop
returns-in_err-after_comma-clause-stop g c =
    exit_stop _ c.from_residual.ensures.1 (c.cases.invariant.onward.stops _ (E.cases_comma_stops (sym c.sees.ensures ∙ c.cases-test.true)
    c.in_err-after_comma.ensures.stop))

pub returns-in-Some-clause-read : goal.returns-in-Some-clause-read
returns-in-Some-clause-read g c = c.cases.invariant.onward.reads _ _ (E.cases_last c.cases.list c.in_ok-after_comma.ensures.read c.in-Some.ensures.read)

pub returns-in_err-next-in-None-clause-stop : goal.returns-in_err-next-in-None-clause-stop
returns-in_err-next-in-None-clause-stop g c =
    exit_stop _ c.from_residual-in_err-next-in-None.ensures.1 (c.cases.invariant.onward.stops _
    (E.cases_case_stops c.in_ok-after_comma.ensures.read c.in-None.ensures.read c.in_err-next-in-None.ensures.stop))

pub cases-init : goal.cases-init
cases-init g c = record { onward = onward_start _ _ _ _; fewer = omega arith }

pub cases-preserved : goal.cases-preserved
cases-preserved g c = record {
  onward = onward_step c.cases.invariant.onward (λ x rest r. E.cases_more c.cases.list c.in_ok-after_comma.ensures.read c.in-None.ensures.read
      c.in_ok-next-in-None.ensures.read c.in_ok-push-in-None.ensures.pushed r) (λ e s. E.cases_more_stops c.in_ok-after_comma.ensures.read
      c.in-None.ensures.read c.in_ok-next-in-None.ensures.read s);
  fewer = omega (arith, c.in_ok-after_comma.ensures.shorter, c.in_ok-next-in-None.ensures.shorter, c.cases.invariant.fewer);
}

pub returns-in_err-after_brace-clause-stop : goal.returns-in_err-after_brace-clause-stop
returns-in_err-after_brace-clause-stop g c =
    exit_stop _ c.from_residual-in_err-after_brace.ensures.1 (c.cases.invariant.onward.stops _
    (E.cases_end_stops (sym c.sees.ensures ∙ c.cases-test.false) c.in_err-after_brace.ensures.stop))

pub returns-clause-read : goal.returns-clause-read
returns-clause-read g c =
    c.cases.invariant.onward.reads _ _ (E.cases_end c.cases.list (sym c.sees.ensures ∙ c.cases-test.false) c.in_ok-after_brace.ensures.read)
