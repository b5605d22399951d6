use Rattle.std.proofs.Common.{[], sym, refl, subst, ◌∙◌, arith}
use Rattle.sail_grammar.specs.declared.mode.Mode.TheVariants.{Full}
use Rattle.sail_grammar.specs.RowName as N
use Rattle.sail_grammar.specs.Form.{Row}
use Rattle.sail_grammar.proofs.Steps.{exit_stop}
use Rattle.sail_parse_expr.specs.Behind as B
use Rattle.sail_parse_expr.proofs.AssignmentRows as S
use Rattle.sail_parse_forms.proofs.Loops.{Ahead, ahead_start, ahead_step}
use Rattle.sail_parse_expr.proofs.expressions.Rows.assigned.Goals as goal

pub targets-init : goal.targets-init
targets-init g c = record {
  ahead = subst (λ more. Ahead (Row (N.Exp Full)) (B.assigned_behind c.args.place c.args.target) c.args.tokens.now [] c.args.tokens.now more)
      (sym c.new-more.ensures) (ahead_start _ _ _ _);
  fewer = omega arith;
}

pub returns-in_err-value-clause-stop : goal.returns-in_err-value-clause-stop
returns-in_err-value-clause-stop g c = exit_stop _ c.from_residual.ensures.1 (c.targets.invariant.ahead.stops _ c.in_err-value.ensures.stop)

pub returns-then-sees_any-clause-read : goal.returns-then-sees_any-clause-read
returns-then-sees_any-clause-read g c =
    c.targets.invariant.ahead.reads _ _ (S.value_worded c.args.place c.args.target c.targets.more (sym c.sees_any.ensures ∙ c.if-sees_any.true)
    c.in_ok-value.ensures.read c.in_ok-made.ensures)

pub returns-in_err-operand-clause-stop : goal.returns-in_err-operand-clause-stop
returns-in_err-operand-clause-stop g c =
    exit_stop _ c.from_residual-in_err-operand.ensures.1 (c.targets.invariant.ahead.stops _
    (S.as_assignment_stops (sym c.sees_any.ensures ∙ c.if-sees_any.false) (S.operand_stops c.in_err-operand.ensures.stop)))

pub returns-in_err-value-in-None-clause-stop : goal.returns-in_err-value-in-None-clause-stop
returns-in_err-value-in-None-clause-stop g c =
    exit_stop _ c.from_residual-in_err-value-in-None.ensures.1 (c.targets.invariant.ahead.stops _
    (S.as_assignment_stops (sym c.sees_any.ensures ∙ c.if-sees_any.false) (S.operand_alone_stops c.in_ok-operand.ensures.read c.in-None.ensures.read
    c.in_err-value-in-None.ensures.stop)))

pub returns-in-None-clause-read : goal.returns-in-None-clause-read
returns-in-None-clause-read g c =
    c.targets.invariant.ahead.reads _ _ (S.value_alone c.args.place c.args.target c.targets.more (sym c.sees_any.ensures ∙ c.if-sees_any.false)
    c.place-begin.ensures c.in_ok-operand.ensures.read c.in_ok-operand.ensures.shorter c.in-None.ensures.read c.in_ok-value-in-None.ensures.read
    c.in_ok-made-in-None.ensures)

pub returns-in-None-2-clause-stop : goal.returns-in-None-2-clause-stop
returns-in-None-2-clause-stop g c =
    c.targets.invariant.ahead.stops _ (S.as_assignment_stops (sym c.sees_any.ensures ∙ c.if-sees_any.false)
    (S.assign_unfit c.in_ok-operand.ensures.read (sym c.in_ok-target_of-in-Some.ensures ∙ c.in-None-2.is) c.in-Some.ensures.read refl))

pub targets-preserved : goal.targets-preserved
targets-preserved g c = record {
  ahead = ahead_step c.targets.invariant.ahead (λ x rest r. S.target_more c.args.place c.args.target c.targets.more
      (sym c.sees_any.ensures ∙ c.if-sees_any.false) c.place-begin.ensures c.in_ok-operand.ensures.read c.in_ok-operand.ensures.shorter
      (sym c.in_ok-target_of-in-Some.ensures ∙ c.in-Some-2.is) c.in-Some.ensures.read c.in_ok-push-in-Some-2.ensures.pushed r)
      (λ e s. S.as_assignment_stops (sym c.sees_any.ensures ∙ c.if-sees_any.false)
      (S.assign_stops c.in_ok-operand.ensures.read (sym c.in_ok-target_of-in-Some.ensures ∙ c.in-Some-2.is) c.in-Some.ensures.read s));
  fewer = omega (arith, c.in_ok-operand.ensures.shorter, c.in-Some.ensures.shorter, c.targets.invariant.fewer);
}
