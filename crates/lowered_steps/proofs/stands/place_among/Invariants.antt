use Rattle.std.proofs.Common.{◌≡◌, drop, map}
use Rattle.lowered_steps.specs.Stands.{named_of, place_found}
use Rattle.lowered_steps.proofs.stands.place_among.Given as goal

abbrev pub invariant-loop-named : goal.invariant-loop-named
invariant-loop-named l = place_found (map named_of (drop l.named-index l.names)) l.name ≡ place_found (map named_of l.names) l.name
