use Rattle.std.proofs.Common.{◌≡◌, drop, map}
use Rattle.sail_kinds.specs.Scopes.{within}
use Rattle.sail_types.specs.Readings.{behind, together}
use Rattle.sail_signatures.specs.Signatures.{typ_annotated}
use Rattle.sail_signatures.proofs.bodies.read_parameters.Given as goal

abbrev pub invariant-loop-parameter : goal.invariant-loop-parameter
invariant-loop-parameter l =
    behind l.types (together (map (typ_annotated (within l.scope)) (drop l.parameter-index l.parameters)))
    ≡ together (map (typ_annotated (within l.scope)) l.parameters)
