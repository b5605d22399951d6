use Rattle.std.proofs.Common.{◌≡◌, ◌++◌, drop, take}
use Rattle.pattern_leaves.specs.Settings.{Around, Scope}
use Rattle.call_arguments.specs.declared.aims.Aim.{Aim}
use Rattle.expression_steps.specs.Coded.{each_part, way_cores, ways_seen}
use Rattle.expression_steps.specs.Statements.{case_ways}
use Rattle.expression_steps.proofs.ways.case_ways.Given as goal

abbrev pub invariant-loop-index : goal.invariant-loop-index
invariant-loop-index l = record {
  ways : (around : Around) (scope : Scope) (aim : Aim)
      → ways_seen around scope aim l.ways ++ case_ways l.place l.number (drop l.index l.arms) (each_part (drop l.index l.bodies)) around scope aim l.value
      ≡ ways_seen around scope aim l.fn.ways ++ case_ways l.place l.number l.arms (each_part l.bodies) around scope aim l.value;
  cores : way_cores l.ways ≡ way_cores l.fn.ways ++ take l.index l.bodies;
}
