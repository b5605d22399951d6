-- That the module of a model keeps all rules.
use Rattle.std.specs.Prelude.{◌≡◌, true}
use Rattle.sail_core.specs.declared.model.CoreModel.{CoreModel}
use Rattle.sized_nodes.specs.declared.trees.SizedCore.{SizedCore}
use Rattle.jib.specs.declared.code.Module.{Module}
use Rattle.jib.specs.Valid.{valid}
use Rattle.jib_lower.specs.Lowered.{LoweredFrom}

abbrev pub ModulesAreValid : Type 0
ModulesAreValid = (written : CoreModel) (sized : SizedCore) (m : Module) → LoweredFrom written sized m → valid m ≡ true
