use Rattle.std.proofs.Common.{◌≡◌, drop, map}
use Rattle.size_splits.specs.Bodies.{body_read}
use Rattle.monomorph.specs.Lasts.{model_in}
use Rattle.tabled_cores.specs.Bodies.{bodies_tabled}
use Rattle.tabled_models.proofs.bodies.bodies_tabled.Given as goal

-- the rest decides
abbrev pub invariant-loop-body : goal.invariant-loop-body
invariant-loop-body l =
    bodies_tabled l.given (model_in l.model).core.types (model_in l.model).sizing l.numbers l.own l.list (map body_read (drop l.body-index l.bodies))
    ≡ bodies_tabled l.given (model_in l.model).core.types (model_in l.model).sizing l.numbers l.own l.list (map body_read l.bodies)
