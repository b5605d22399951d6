use Rattle.std.proofs.Common.{◌≡◌, ◌++◌, drop, map}
use Rattle.size_splits.specs.Bodies.{body_read}
use Rattle.monomorph.specs.Lasts.{model_in}
use Rattle.sized_trees.specs.Bodies.{sized_body}
use Rattle.sized_models.proofs.bodies.sized_bodies.Given as goal

abbrev pub invariant-loop-body : goal.invariant-loop-body
invariant-loop-body l =
    l.made ++ map (sized_body (model_in l.model) l.list l.numbers l.own) (map body_read (drop l.body-index l.bodies))
    ≡ map (sized_body (model_in l.model) l.list l.numbers l.own) (map body_read l.bodies)
