use Rattle.std.proofs.Common.{List, drop}
use Rattle.jib.specs.declared.code.Function.{Function as Made}
use Rattle.jib_lower.specs.Directions.{WaysAdded}
use Rattle.jib_lower.specs.Left.{WaysLeft}
use Rattle.jib_lower.proofs.directions.push_ways.Given as goal

-- what is made of the directions from here on stands behind what is made so far
abbrev pub invariant-loop-direction : goal.invariant-loop-direction
invariant-loop-direction l = record {
  added : (new : List Made) → WaysAdded l.model l.place (drop l.direction-index l.order) l.ways new
      → WaysAdded l.model l.number l.order l.initial.ways new;
  left : WaysLeft l.model l.place (drop l.direction-index l.order) → WaysLeft l.model l.number l.order;
}
