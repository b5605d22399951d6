-- The one run that each call of a valid module has.
use Rattle.std.proofs.Common.{◌≡◌, ℕ, true, List, sym, ap, ◌∙◌, subst}
use Rattle.sail_types.specs.declared.table.Types.{Types}
use Rattle.sail_types.specs.declared.values.Value.{Value}
use Rattle.model_state.specs.RunState.{RunState, Ran}
use Rattle.model_state.specs.Folds.{Keeps, IsNotDone}
use Rattle.jib.specs.declared.code.Module.{Module}
use Rattle.jib.specs.Jib.{Store, jib_run}
use Rattle.jib.specs.Openings.{Calls, begun, ran_of}
use Rattle.jib.specs.Valid.{valid}
use Rattle.jib.proofs.Ends.{ends}
use Rattle.jib.proofs.Determined.{determined}
use Rattle.jib.proofs.ValidLaws.{valid_ticking, valid_set, valid_once}
use Rattle.jib_machine.specs.Events.{call_end, call_ran}
use Rattle.jib_machine.proofs.KeepLaws.{Later, runs_later, later_keeps, later_ends}

module _ (m : Module) (v : valid m ≡ true) (types : Types) (lets : List Value) (hart f : ℕ) (vs : List Value) where
  end_is : (s : Store) → jib_run m lets hart f vs s (call_end m v lets hart f vs s)
  unfolding call_end
  end_is s = (ends m lets hart (valid_ticking m v) (valid_set m v) f vs s).1

  -- what a call comes to is what its one run comes to
  pub call_is : (state : RunState) (ran : Ran) → Calls m types lets hart 1000000 f vs state ran → ran ≡ call_ran m v types lets hart f vs state
  call_is state ran c =
      c.same ∙ ap (ran_of types) (determined m lets hart (valid_once m v) c.run (end_is (begun 1000000 state)))

  -- the same of arguments that are these
  pub called_so : (args : List Value) (state : RunState) (ran : Ran) → args ≡ vs → Calls m types lets hart 1000000 f args state ran
      → ran ≡ call_ran m v types lets hart f vs state
  called_so args state ran e c = call_is state ran (subst (λ q. Calls m types lets hart 1000000 f q state ran) e c)

  end_later : (state : RunState) → Later state (call_end m v lets hart f vs (begun 1000000 state))
  end_later state = runs_later m lets hart v (end_is (begun 1000000 state))

  pub call_keeps : (state : RunState) → Keeps state (call_ran m v types lets hart f vs state).state
  call_keeps state = later_keeps state (call_end m v lets hart f vs (begun 1000000 state)) (end_later state)

  pub call_ends : (state : RunState) → IsNotDone (call_ran m v types lets hart f vs state).ended
  call_ends state = later_ends types state (call_end m v lets hart f vs (begun 1000000 state)) (end_later state)
