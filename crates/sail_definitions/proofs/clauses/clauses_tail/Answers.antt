use Rattle.std.proofs.Common.{sym, ◌∙◌, arith}
use Rattle.sail_grammar.proofs.Steps.{exit_stop, onward_step}
use Rattle.sail_definitions.proofs.ClauseRows.{clause_more, clauses_comma, clauses_end, clause_more_stops}
use Rattle.sail_definitions.proofs.ClauseRows.{clause_comma_stops, clause_close_stops, clause_stops}
use Rattle.sail_definitions.proofs.ClauseRows.{clauses_end_stops}
use Rattle.sail_definitions.proofs.clauses.clauses_tail.Goals as goal

pub returns-in_err-after_comma-clause-stop : goal.returns-in_err-after_comma-clause-stop
returns-in_err-after_comma-clause-stop c =
    exit_stop _ c.from_residual.ensures.1 (c.clauses.invariant.onward.stops _
    (clause_comma_stops (sym c.sees.ensures ∙ c.clauses-test.true) c.in_err-after_comma.ensures.stop))

pub returns-in_err-after_close-clause-stop : goal.returns-in_err-after_close-clause-stop
returns-in_err-after_close-clause-stop c =
    exit_stop _ c.from_residual-in_err-after_close.ensures.1 (c.clauses.invariant.onward.stops _
    (clause_close_stops c.in_ok-after_comma.ensures.read (sym c.sees-in-clauses.ensures ∙ c.if-sees.true) c.in_err-after_close.ensures.stop))

pub returns-then-sees-clause-read : goal.returns-then-sees-clause-read
returns-then-sees-clause-read c =
    c.clauses.invariant.onward.reads _ _ (clauses_comma c.clauses.list c.in_ok-after_comma.ensures.read c.in_ok-after_close.ensures.read)

pub returns-in_err-next-clause-stop : goal.returns-in_err-next-clause-stop
returns-in_err-next-clause-stop c =
    exit_stop _ c.from_residual-in_err-next.ensures.1 (c.clauses.invariant.onward.stops _
    (clause_stops c.in_ok-after_comma.ensures.read (sym c.sees-in-clauses.ensures ∙ c.if-sees.false) c.in_err-next.ensures.stop))

pub clauses-preserved : goal.clauses-preserved
clauses-preserved c = record {
  onward = onward_step c.clauses.invariant.onward (λ x rest r. clause_more c.clauses.list c.in_ok-after_comma.ensures.read
      (sym c.sees-in-clauses.ensures ∙ c.if-sees.false) c.in_ok-next.ensures.read c.in_ok-push.ensures.pushed r)
      (λ e s. clause_more_stops c.in_ok-after_comma.ensures.read (sym c.sees-in-clauses.ensures ∙ c.if-sees.false) c.in_ok-next.ensures.read s);
  fewer = omega (arith, c.in_ok-after_comma.ensures.shorter, c.in_ok-next.ensures.shorter, c.clauses.invariant.fewer);
}

pub returns-in_err-after_bracket-clause-stop : goal.returns-in_err-after_bracket-clause-stop
returns-in_err-after_bracket-clause-stop c =
    exit_stop _ c.from_residual-in_err-after_bracket.ensures.1 (c.clauses.invariant.onward.stops _
    (clauses_end_stops (sym c.sees.ensures ∙ c.clauses-test.false) c.in_err-after_bracket.ensures.stop))

pub returns-clause-read : goal.returns-clause-read
returns-clause-read c =
    c.clauses.invariant.onward.reads _ _ (clauses_end c.clauses.list (sym c.sees.ensures ∙ c.clauses-test.false) c.in_ok-after_bracket.ensures.read)
