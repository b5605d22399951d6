-- What the code of a model is made by, beside the model and what its openings give.
use Rattle.std.specs.Prelude.{◌≡◌, ◌+◌, ◌*◌, List, length}
use Rattle.sail_core.specs.declared.model.CoreModel.{CoreModel}
use Rattle.size_values.specs.declared.sized.Sized.TheVariants as S
use Rattle.sized_nodes.specs.declared.trees.SizedCore.{SizedCore}
use Rattle.jib.specs.declared.code.Function.{Function as Made}
use Rattle.lowered_tables.specs.declared.tables.Table.{Table}
use Rattle.jib_lower.specs.declared.instances.Model.{Model}
use Rattle.jib_lower.specs.declared.lowering.Parts.{Parts}
use Rattle.jib_lower.specs.declared.openings.Opened.{Opened}
use Rattle.jib_lower.specs.Crossings.{calls_of}
use Rattle.jib_lower.specs.Directions.{FunctionsMade}
use Rattle.jib_lower.specs.Entering.{mapped_from}
use Rattle.jib_lower.specs.Instances.{CalledAre}
use Rattle.jib_lower.specs.Lowered.{OpenedFrom}
use Rattle.jib_lower.specs.Order.{Ordered, made_in}
use Rattle.jib_lower.specs.Tabled.{ShellOf, TableOf}
use Rattle.jib_lower.specs.Types.{exception_typ}

pub record PartsOf (core : CoreModel) (sized : SizedCore) (parts : Parts) : Type 0 where
  pub table : Table
  pub is : TableOf core sized parts.turned table
  pub numbered : parts.numbered ≡ table.numbered
  pub shell : ShellOf core table.numbered table.types parts.shell
  pub exception : parts.exception ≡ exception_typ core.exception
  pub nothing : parts.nothing ≡ S.Unit
  pub truths : parts.truths ≡ S.Bool
  pub called : CalledAre core sized table.numbered parts.called parts.turned
  pub ordered : Ordered (calls_of core.directions) (made_in 0 parts.turned) parts.order
  pub entered : parts.directions ≡ mapped_from core.types parts.order 0 core.directions
  pub before : parts.before ≡ length parts.order
  pub opened_at : parts.opened_at ≡ parts.before + 2 * length sized.instances

-- a model of these parts
pub record ModelBy (core : CoreModel) (sized : SizedCore) (parts : Parts) (model : Model) : Type 0 where
  pub of_core : model.core.now ≡ core
  pub of_sized : model.sized.now ≡ sized
  pub numbered : model.numbered.now ≡ parts.numbered
  pub shell : model.shell.now ≡ parts.shell
  pub exception : model.exception.now ≡ parts.exception
  pub nothing : model.nothing.now ≡ parts.nothing
  pub truths : model.truths.now ≡ parts.truths
  pub called : model.called.now ≡ parts.called
  pub directions : model.directions.now ≡ parts.directions
  pub turned : model.turned.now ≡ parts.turned
  pub order : model.order.now ≡ parts.order
  pub before : model.before ≡ parts.before

-- what is made of its openings, behind the functions of directions and of its instances
pub record OpenedOf (core : CoreModel) (sized : SizedCore) (parts : Parts) (opened : Opened) : Type 0 where
  pub bare : Model
  pub is : ModelBy core sized parts bare
  pub made : OpenedFrom bare parts.opened_at opened

-- what is made of directions and of its instances, which may read these openings
pub record FunctionsOf (core : CoreModel) (sized : SizedCore) (parts : Parts) (opened : Opened) (functions : List Made) : Type 0 where
  pub model : Model
  pub is : ModelBy core sized parts model
  pub lets : model.lets.now ≡ opened.types
  pub names : model.openings.now ≡ opened.names
  pub made : FunctionsMade model functions
