use Rattle.std.proofs.Common.{◌≡◌, drop, map}
use Rattle.std.specs.List.{list_any}
use Rattle.size_splits.specs.Bodies.{body_read}
use Rattle.size_splits.specs.Sizing.{in_body}
use Rattle.size_splits.proofs.sizing.in_bodies.Given as goal

-- the rest decides
abbrev pub invariant-loop-body : goal.invariant-loop-body
invariant-loop-body l =
    list_any (in_body l.types l.sizing l.variable) (map body_read (drop l.body-index l.bodies))
    ≡ list_any (in_body l.types l.sizing l.variable) (map body_read l.bodies)
