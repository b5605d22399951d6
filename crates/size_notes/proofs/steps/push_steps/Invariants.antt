use Rattle.std.proofs.Common.{◌≡◌, ◌++◌, length}
use Rattle.std.specs.Vec.Iter.{into_iter_items, into_iter_len}
use Rattle.size_notes.specs.Reading.{steps_with}
use Rattle.size_notes.proofs.steps.push_steps.Given as goal

-- the rest makes up all of them
abbrev pub invariant-loop-step : goal.invariant-loop-step
invariant-loop-step l = record {
  known : into_iter_len l.step-iterator ≡ length (into_iter_items l.step-iterator);
  made : l.steps ++ steps_with l.behind (into_iter_items l.step-iterator) ≡ l.initial.steps ++ steps_with l.behind l.fn.more;
}
