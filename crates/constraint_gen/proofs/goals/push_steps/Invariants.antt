use Rattle.std.proofs.Common.{◌≡◌, ◌++◌}
use Rattle.value_indices.specs.Force.{IsInForce}
use Rattle.value_indices.specs.Walking.{begun, steps_read}
use Rattle.fact_index.specs.Filed.{IsFiled}
use Rattle.constraint_gen.specs.Obligations.{goals_in}
use Rattle.constraint_gen.proofs.goals.push_steps.Given as goal

abbrev pub invariant-loop-step : goal.invariant-loop-step
invariant-loop-step l = record {
  owed : l.made ≡ l.initial.made ++ goals_in l.names (steps_read (begun 0) l.yielded).notes;
  force : IsInForce (steps_read (begun 0) l.yielded) l.facts.items l.marks;
  filed : IsFiled l.facts.items l.lists.items;
}
