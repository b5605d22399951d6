-- What a model's events come to, as whatever takes a model's steps means them: by the one run that each call of a valid module has.
use Rattle.std.specs.Prelude.{◌≡◌, ℕ, pos, true, List, [], ◌∷◌}
use Rattle.sail_base.specs.Bits.{bits_of}
use Rattle.sail_types.specs.declared.table.Types.{Types}
use Rattle.sail_types.specs.declared.values.Value.{Value}
use Rattle.sail_types.specs.declared.values.Value.TheVariants as V
use Rattle.model_state.specs.declared.cause.Ended.{Ended}
use Rattle.model_state.specs.declared.state.Register.{Register}
use Rattle.model_state.specs.RunState.{RunState, Ran, fresh}
use Rattle.model_state.specs.Folds.{Meaning}
use Rattle.jib.specs.declared.code.Module.{Module}
use Rattle.jib.specs.Jib.{Store, Outcome}
use Rattle.jib.specs.Openings.{begun, ran_of, initial}
use Rattle.jib.specs.Valid.{valid}
use Rattle.jib.proofs.Ends.{ends}
use Rattle.jib.proofs.ValidLaws.{valid_ticking, valid_set}
use Rattle.jib_machine.specs.declared.entries.Entries.{Entries}

-- the state over which openings are worked out, which touch none: one hart without registers, and a byte of memory
abbrev pub blank : RunState
blank = fresh (record { definitions = [] }) [] 1 0 (0 ∷ [])

-- how the call of a function of a valid module by the machine ends: it has an end, and only one (the laws of `jib`)
unfoldable pub call_end : (m : Module) → valid m ≡ true → List Value → ℕ → ℕ → List Value → Store → Outcome
call_end m v lets hart f vs s = (ends m lets hart (valid_ticking m v) (valid_set m v) f vs s).0

-- what it comes to with the ticks of an event
abbrev pub call_ran : (m : Module) → valid m ≡ true → Types → List Value → ℕ → ℕ → List Value → RunState → Ran
call_ran m v types lets hart f vs state = ran_of types (call_end m v lets hart f vs (begun 1000000 state))

-- `step` takes unit
abbrev pub step_arguments : List Value
step_arguments = V.Unit ∷ []

-- `reset` takes the number of the hart and the entry of the program
abbrev pub reset_arguments : ℕ → ℕ → List Value
reset_arguments hart entry = V.Integer (pos hart) ∷ V.Bits (bits_of 64 entry) ∷ []

-- a module of a model with these named types and registers, whose openings ended so and have these values
abbrev pub events : (m : Module) → valid m ≡ true → Types → List Register → Entries → List Ended → List Value → Meaning
events m v types registers entries opened lets = record {
  registers = registers;
  init = λ state. initial m.openings opened state;
  reset = λ hart entry state. call_ran m v types lets hart entries.reset (reset_arguments hart entry) state;
  step = λ hart state. call_ran m v types lets hart entries.step step_arguments state;
}
