-- Each node of an expression notes once what it makes of so many operands, and once what it calls (Sail language manual, "Expressions").
use Rattle.std.specs.Prelude.{◌≤◌, ℕ, List}
use Rattle.sail_core.specs.Nodes.{numbers}
use Rattle.sail_core.specs.declared.tree.Core.{Core}
use Rattle.value_indices.specs.declared.notes.Fact.{Fact}
use Rattle.pattern_leaves.specs.Settings.{Around, Scope}
use Rattle.call_arguments.specs.declared.aims.Aim.{Aim}
use Rattle.expression_steps.specs.Expressions.{part}
use Rattle.node_counts.specs.Counts.{Counted, mass, times, weigh}

-- the walk over an expression writes no more of such notes than its nodes have that number
abbrev pub NodesAreCounted : Type 0
NodesAreCounted =
    (q : Counted) (c : Core) (around : Around) (scope : Scope) (aim : Aim) (facts : List Fact) (n : ℕ)
    → mass (weigh q) ((part c).walk around scope aim facts n).notes ≤ times q (numbers c)
