use Rattle.std.proofs.Common.{◌≡◌, ℕ, List, IfOk, OnOk, subst}
use Rattle.model_state.specs.Folds.{run}
use Rattle.harts.proofs.Schedules.{whole_order}
use Rattle.harts.proofs.running.run.Goals as goal

pub returns-clause-cause : goal.returns-clause-cause
returns-clause-cause g c =
    subst (λ (hs : List ℕ). IfOk c.run_order.result (λ e. e.cause ≡ (run (g.P.Stepper.meaning c.args.stepper.now) hs c.args.state.now).cause))
    (whole_order c.args.schedule.now) c.run_order.ensures.cause

pub returns-clause-steps : goal.returns-clause-steps
returns-clause-steps g c =
    subst (λ (hs : List ℕ). IfOk c.run_order.result (λ e. e.steps ≡ (run (g.P.Stepper.meaning c.args.stepper.now) hs c.args.state.now).steps))
    (whole_order c.args.schedule.now) c.run_order.ensures.steps

pub returns-clause-state : goal.returns-clause-state
returns-clause-state g c =
    subst (λ (hs : List ℕ). OnOk c.run_order.result (c.run_order.new.state ≡ (run (g.P.Stepper.meaning c.args.stepper.now) hs c.args.state.now).state))
    (whole_order c.args.schedule.now) c.run_order.ensures.state
