use Rattle.std.proofs.Common.{◌≡◌, drop}
use Rattle.jib_lower.specs.Crossings.{wanted_by}
use Rattle.jib_lower.proofs.crossings.add_wanted.Given as goal

-- those of the instances from here on come behind those so far
abbrev pub invariant-loop-found : goal.invariant-loop-found
invariant-loop-found l = wanted_by l.turns (drop l.found-index l.instances) l.seen ≡ wanted_by l.turns l.instances l.initial.seen
