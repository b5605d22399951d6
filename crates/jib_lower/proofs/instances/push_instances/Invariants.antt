use Rattle.std.proofs.Common.{List, drop}
use Rattle.jib.specs.declared.code.Function.{Function as Made}
use Rattle.jib_lower.specs.Added.{InstancesAdded}
use Rattle.jib_lower.specs.Left.{InstancesLeft}
use Rattle.jib_lower.proofs.instances.push_instances.Given as goal

-- what is made of the instances from here on stands behind what is made so far
abbrev pub invariant-loop-found : goal.invariant-loop-found
invariant-loop-found l = record {
  added : (new : List Made) → InstancesAdded l.model l.place (drop l.found-index l.instances) l.functions new
      → InstancesAdded l.model l.at l.instances l.initial.functions new;
  left : InstancesLeft l.model l.place (drop l.found-index l.instances) → InstancesLeft l.model l.at l.instances;
}
