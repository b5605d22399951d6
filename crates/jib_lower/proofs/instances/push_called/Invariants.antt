use Rattle.std.proofs.Common.{List, drop}
use Rattle.lowered_typed.specs.declared.signs.Called.{Called}
use Rattle.jib_lower.specs.Added.{CalledAdded}
use Rattle.jib_lower.specs.Left.{SomeEntryLeft}
use Rattle.jib_lower.proofs.instances.push_called.Given as goal

-- what calls of the instances from here on enter stands behind what is found so far
abbrev pub invariant-loop-found : goal.invariant-loop-found
invariant-loop-found l = record {
  added : (new : List Called) → CalledAdded l.numbered l.cycles (drop l.found-index l.instances) l.called new
      → CalledAdded l.numbered l.cycles l.instances l.initial.called new;
  left : SomeEntryLeft l.core (drop l.found-index l.instances) → SomeEntryLeft l.core l.instances;
}
