use Rattle.std.proofs.Common.{◌≡◌, ◌≤◌, drop}
use Rattle.std.specs.List.{zip}
use Rattle.scattered.specs.Refused.{is_ended, first_failure, parts_failure}
use Rattle.scattered.proofs.checking.check.Given as goal

abbrev pub invariant-loop-index : goal.invariant-loop-index
invariant-loop-index l = record {
  few : l.number ≤ l.index;
  onward : first_failure (is_ended (zip l.definitions l.openings)) l.number (drop l.index (zip l.definitions l.openings))
      ≡ parts_failure (zip l.definitions l.openings);
}
