-- What code reads, where slots are a list.
use Rattle.std.specs.Prelude.{ℕ, List, map, slice_index_or, unwrap_or}
use Rattle.sail_types.specs.declared.values.Value.{Value}
use Rattle.sail_types.specs.declared.values.Value.TheVariants as V
use Rattle.model_state.specs.RunState.{RunState, register_value}
use Rattle.jib.specs.declared.code.Source.{Source}
use Rattle.jib.specs.declared.code.Source.TheVariants as R
use Rattle.jib.specs.declared.code.Target.{Target}
use Rattle.jib.specs.declared.code.Target.TheVariants as T
use Rattle.jib.specs.Values.{literal_value}
use Rattle.jib.specs.Jib.{Slots}

-- slots that stand in a list
abbrev pub filled : List Value → Slots
filled xs i = slice_index_or xs i V.Unit

-- the value of a source
abbrev pub source_value : List Value → ℕ → RunState → List Value → Source → Value
source_value lets hart state slots (R.Slot i) = slice_index_or slots i V.Unit
source_value lets hart state slots (R.Register i) = unwrap_or (register_value state hart i) V.Unit
source_value lets hart state slots (R.Let k) = slice_index_or lets k V.Unit
source_value lets hart state slots (R.Constant t l) = literal_value l

abbrev pub source_values : List Value → ℕ → RunState → List Value → List Source → List Value
source_values lets hart state slots sources = map (source_value lets hart state slots) sources

-- what a target holds, as a source
abbrev pub source_of : Target → Source
source_of (T.Slot i) = R.Slot i
source_of (T.Register i) = R.Register i
