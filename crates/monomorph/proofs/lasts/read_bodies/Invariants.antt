use Rattle.std.proofs.Common.{◌≡◌, drop, map}
use Rattle.size_splits.specs.Bodies.{body_read}
use Rattle.monomorph.specs.Lasts.{model_in, read_bodies}
use Rattle.monomorph.proofs.lasts.read_bodies.Given as goal

-- the rest decides
abbrev pub invariant-loop-body : goal.invariant-loop-body
invariant-loop-body l = read_bodies (model_in l.model) l.numbers l.own (map body_read (drop l.body-index l.bodies)) l.found
    ≡ read_bodies (model_in l.model) l.numbers l.own (map body_read l.bodies) l.initial.found
