use Rattle.std.proofs.Common.{◌≡◌, drop}
use Rattle.sail_kinds.specs.Failures.{first_failure}
use Rattle.sail_names.specs.Known.{known_of}
use Rattle.type_definitions.specs.Defined.{held}
use Rattle.sail_bodies.specs.Bodies.{body_failures_from, all_body_failures}
use Rattle.sail_bodies.proofs.bodies.note_bodies.Given as goal

abbrev pub invariant-loop-number : goal.invariant-loop-number
invariant-loop-number l =
    first_failure l.first.error
    (body_failures_from l.given.definitions.now (known_of l.given.names.now) (held l.given.types.now) l.number
    (drop l.number l.given.definitions.now))
    ≡ first_failure l.initial.first.error (all_body_failures l.given.definitions.now (known_of l.given.names.now) (held l.given.types.now))
