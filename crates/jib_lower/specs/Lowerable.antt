-- Why a model with constant sizes isn't lowered: the first test of `specs/Lowered` that fails.
use Rattle.std.specs.Prelude.{◌≡◌, ℕ, false, List, []}
use Rattle.sail_core.specs.Fragments.{model_in}
use Rattle.sail_core.specs.declared.fragments.Fragment.TheVariants as G
use Rattle.sail_core.specs.declared.model.CoreModel.{CoreModel}
use Rattle.sized_nodes.specs.declared.trees.SizedCore.{SizedCore}
use Rattle.mappings.specs.Rewriting.{without_mappings}
use Rattle.match_rewrite.specs.Rewriting.{with_flat_arms}
use Rattle.tabled_models.specs.Cores.{core_tabled}
use Rattle.jib_lower.specs.declared.instances.Model.{Model}
use Rattle.jib_lower.specs.declared.lowering.Parts.{Parts}
use Rattle.jib_lower.specs.declared.openings.Opened.{Opened}
use Rattle.jib_lower.specs.Crossings.{turned_by, turns_of}
use Rattle.jib_lower.specs.Cycles.{NumbersFit}
use Rattle.jib_lower.specs.Leads.{AllAlone, EachAlone}
use Rattle.jib_lower.specs.Left.{EntriesLeft, InstancesLeft, OpeningsLeft, TypesLeft, WaysLeft}
use Rattle.jib_lower.specs.Parts.{ModelBy, OpenedOf, PartsOf}

-- what calls enter; or the types, where numbers fit the cycles of the model and the calls of its instances
pub data PartsLeft (core : CoreModel) (sized : SizedCore) : Type 0 where
  entries_left : EntriesLeft core sized → PartsLeft core sized
  types_left : {numbers : List ℕ} → NumbersFit core.functions sized.instances sized.mappings (turns_of core) numbers
      → TypesLeft core sized (turned_by core sized numbers) → PartsLeft core sized

-- one of the openings, which are made without names
pub record OpenedLeft (core : CoreModel) (sized : SizedCore) (parts : Parts) : Type 0 where
  pub bare : Model
  pub is : ModelBy core sized parts bare
  pub why : OpeningsLeft bare 0 bare.core.now.openings [] []

-- one of the directions that are made, or of the instances behind them
pub data SomeLeft (model : Model) : Type 0 where
  direction_left : WaysLeft model 0 model.order.now → SomeLeft model
  instance_left : InstancesLeft model 0 model.sized.now.instances → SomeLeft model

-- which may read what was made of the openings
pub record FunctionsLeft (core : CoreModel) (sized : SizedCore) (parts : Parts) (opened : Opened) : Type 0 where
  pub model : Model
  pub is : ModelBy core sized parts model
  pub lets : model.lets.now ≡ opened.types
  pub names : model.openings.now ≡ opened.names
  pub why : SomeLeft model

-- why a model with flat arms isn't lowered: two calls of an instance or of an opening have one number, or a part isn't made
pub data FlatLeft (core : CoreModel) (sized : SizedCore) : Type 0 where
  calls_alike : (AllAlone sized.instances → ⊥) → FlatLeft core sized
  opening_calls_alike : (EachAlone sized.openings → ⊥) → FlatLeft core sized
  parts_left : PartsLeft core sized → FlatLeft core sized
  openings_left : {parts : Parts} → PartsOf core sized parts → OpenedLeft core sized parts → FlatLeft core sized
  functions_left : {parts : Parts} {opened : Opened} → PartsOf core sized parts → OpenedOf core sized parts opened → FunctionsLeft core sized parts opened
      → FlatLeft core sized

-- why a model isn't lowered as it is written: some case doesn't go by the numbers that are noted before its value is there, or something in it asks a direction
-- for an option, or without mappings and with flat arms it isn't
pub data NotLowerable (written : CoreModel) (sized : SizedCore) : Type 0 where
  not_tabled : core_tabled false written ≡ false → NotLowerable written sized
  not_resolved : model_in G.Resolved written ≡ false → NotLowerable written sized
  not_flat : FlatLeft (with_flat_arms (without_mappings written)) sized → NotLowerable written sized
