use Rattle.std.proofs.Common.{◌≡◌, ◌++◌, drop}
use Rattle.shape_models.specs.Models.{directions_give}
use Rattle.shape_models.specs.Sources.{tabled_by}
use Rattle.shape_models.proofs.meanings.find_given.Given as goal

abbrev pub invariant-loop-definition : goal.invariant-loop-definition
invariant-loop-definition l = l.given ++ directions_give (tabled_by l.source) (drop l.definition-index l.definitions)
    ≡ directions_give (tabled_by l.source) l.definitions
