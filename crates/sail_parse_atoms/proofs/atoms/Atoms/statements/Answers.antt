use Rattle.std.proofs.Common.{arith}
use Rattle.sail_grammar.proofs.Steps.{exit_stop}
use Rattle.sail_parse_atoms.proofs.BlockRows as B
use Rattle.sail_parse_forms.proofs.Loops.{ahead_start, ahead_step}
use Rattle.sail_parse_atoms.proofs.atoms.Atoms.statements.Goals as goal

pub statements-init : goal.statements-init
statements-init g c = record { ahead = ahead_start _ _ _ _; fewer = omega arith }

pub returns-in-Some-clause-read : goal.returns-in-Some-clause-read
returns-in-Some-clause-read g c =
    c.statements.invariant.ahead.reads _ _ (B.statements_end c.statements.list c.in-Some.ensures.read c.in_ok-made-in-Some.ensures)

pub returns-in_err-next-in-None-clause-stop : goal.returns-in_err-next-in-None-clause-stop
returns-in_err-next-in-None-clause-stop g c =
    exit_stop _ c.from_residual-in_err-next-in-None.ensures.1 (c.statements.invariant.ahead.stops _
    (B.statement_stops c.in-None.ensures.read c.in_err-next-in-None.ensures.stop))

pub statements-preserved : goal.statements-preserved
statements-preserved g c = record {
  ahead = ahead_step c.statements.invariant.ahead (λ x rest r. B.statements_more c.statements.list c.in-None.ensures.read c.in_ok-next-in-None.ensures.read
      c.in-Some-accept.ensures.read c.in_ok-push-in-None.ensures.pushed r) (λ e s. B.statements_more_stops c.in-None.ensures.read
      c.in_ok-next-in-None.ensures.read c.in-Some-accept.ensures.read s);
  fewer = omega (arith, c.in_ok-next-in-None.ensures.shorter, c.in-Some-accept.ensures.shorter, c.statements.invariant.fewer);
}

pub returns-in_err-after_brace-in-None-accept-clause-stop : goal.returns-in_err-after_brace-in-None-accept-clause-stop
returns-in_err-after_brace-in-None-accept-clause-stop g c =
    exit_stop _ c.from_residual-in_err-after_brace-in-None-accept.ensures.1 (c.statements.invariant.ahead.stops _
    (B.statements_value_stops c.in-None.ensures.read c.in_ok-next-in-None.ensures.read c.in-None-accept.ensures.read
    c.in_err-after_brace-in-None-accept.ensures.stop))

pub returns-in-None-accept-clause-read : goal.returns-in-None-accept-clause-read
returns-in-None-accept-clause-read g c =
    c.statements.invariant.ahead.reads _ _ (B.statements_value c.statements.list c.in-None.ensures.read c.in_ok-next-in-None.ensures.read
    c.in-None-accept.ensures.read c.in_ok-after_brace-in-None-accept.ensures.read c.in_ok-push-in-None.ensures.pushed c.in_ok-made-in-None-accept.ensures)
