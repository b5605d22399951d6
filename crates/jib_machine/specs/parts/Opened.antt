-- What openings leave of a machine, one after another.
use Rattle.std.specs.Prelude.{◌≡◌, List, [], ◌∷◌, ◌++◌}
use Rattle.sail_types.specs.declared.table.Types.{Types}
use Rattle.sail_types.specs.declared.values.Value.{Value}
use Rattle.model_state.specs.declared.cause.Ended.{Ended}
use Rattle.model_state.specs.declared.state.Register.{Register}
use Rattle.jib.specs.declared.code.Module.{Module}
use Rattle.jib.specs.declared.code.Opening.{Opening}
use Rattle.jib.specs.Jib.{Outcome, jib_run}
use Rattle.jib.specs.Openings.{begun, ended, value_or_zero}
use Rattle.jib_machine.specs.declared.entries.Entries.{Entries}
use Rattle.jib_machine.specs.declared.machine.Machine.{Machine}
use Rattle.jib_machine.specs.Events.{blank}

-- a machine of the same model
pub record SameModel (before after : Machine) : Type 0 where
  pub program : after.program ≡ before.program
  pub types : after.types ≡ before.types
  pub registers : after.registers ≡ before.registers
  pub entries : after.entries ≡ before.entries

-- one more opening is worked out: it ends so, and its value stands behind the others
pub record OpensOne (m : Module) (types : Types) (lets : List Value) (o : Opening) (e : Ended) (lets' : List Value) : Type 0 where
  pub outcome : Outcome
  pub run : jib_run m lets 0 o.function [] (begun 0 blank) outcome
  pub ended_so : e ≡ ended types outcome
  pub kept : lets' ≡ lets ++ value_or_zero m o e ∷ []
