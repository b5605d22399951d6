use Rattle.std.proofs.Common.{◌≡◌, ◌+◌, drop}
use Rattle.shapes.specs.Resolved.{function_place}
use Rattle.shapes.proofs.resolving.function_place.Given as goal

abbrev pub invariant-loop-definition : goal.invariant-loop-definition
invariant-loop-definition l =
    l.place + function_place (drop l.definition-index l.definitions) l.name ≡ function_place l.definitions l.name
