use Rattle.std.proofs.Common.{◌≡◌, ◌++◌, drop, map}
use Rattle.monomorph.specs.Lasts.{model_in}
use Rattle.sized_trees.specs.Trees.{sized_instance}
use Rattle.sized_models.proofs.models.sized_instances.Given as goal

abbrev pub invariant-loop-instance : goal.invariant-loop-instance
invariant-loop-instance l =
    l.made ++ map (sized_instance (model_in l.model) l.list) (drop l.instance-index l.list)
    ≡ map (sized_instance (model_in l.model) l.list) l.list
