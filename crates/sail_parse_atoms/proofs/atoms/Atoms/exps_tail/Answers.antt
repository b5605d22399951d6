use Rattle.std.proofs.Common.{◌++◌, [], ◌∷◌, sym, ◌∙◌, arith}
use Rattle.sail_grammar.proofs.Steps.{exit_stop, stops_row, stops_first, more_stops, onward_start, onward_step}
use Rattle.sail_parse_atoms.proofs.AtomRows as A
use Rattle.sail_parse_atoms.proofs.atoms.Atoms.exps_tail.Goals as goal

pub returns-in_err-after_comma-clause-stop : goal.returns-in_err-after_comma-clause-stop
returns-in_err-after_comma-clause-stop g c =
    exit_stop _ c.from_residual.ensures.1 (c.exps.invariant.onward.stops _ (A.exps_comma_stops (sym c.sees.ensures ∙ c.exps-test.true)
    c.in_err-after_comma.ensures.stop))

pub returns-in_err-next-clause-stop : goal.returns-in_err-next-clause-stop
returns-in_err-next-clause-stop g c =
    exit_stop _ c.from_residual-in_err-next.ensures.1 (c.exps.invariant.onward.stops _
    (stops_row (more_stops c.in_ok-after_comma.ensures.read (stops_first c.in_err-next.ensures.stop))))

pub exps-init : goal.exps-init
exps-init g c = record { onward = onward_start _ _ _ _; fewer = omega arith }

pub exps-preserved : goal.exps-preserved
exps-preserved g c = record {
  onward = onward_step c.exps.invariant.onward (λ x rest r. A.exps_more c.exps.list c.in_ok-after_comma.ensures.read c.in_ok-next.ensures.read
      (c.in_ok-push.ensures.pushed ∙ (λ i. c.exps.list ++ c.into_inner.ensures i ∷ [])) r) (λ e s. A.exps_more_stops
      c.in_ok-after_comma.ensures.read c.in_ok-next.ensures.read s);
  fewer = omega (arith, c.in_ok-after_comma.ensures.shorter, c.in_ok-next.ensures.shorter, c.exps.invariant.fewer);
}

pub returns-clause-read : goal.returns-clause-read
returns-clause-read g c = c.exps.invariant.onward.reads _ _ (A.exps_none c.exps.list (sym c.sees.ensures ∙ c.exps-test.false))
