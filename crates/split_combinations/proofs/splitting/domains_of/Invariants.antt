use Rattle.std.proofs.Common.{◌≡◌, drop, length, take}
use Rattle.value_indices.specs.Force.{IsInForce}
use Rattle.value_indices.specs.Walking.{begun, steps_read}
use Rattle.size_values.specs.Numbers.{meant}
use Rattle.size_splits.specs.Reading.{each_first, steps_domains}
use Rattle.split_combinations.proofs.splitting.domains_of.Given as goal

abbrev pub invariant-loop-at : goal.invariant-loop-at
invariant-loop-at l = record {
  known : each_first l.known (steps_domains l.setting.types.now l.setting.sizing.now l.variables (meant l.setting.variables) l.count l.from
      (steps_read (begun 0) (take l.at l.steps)) (drop l.at l.steps))
      ≡ steps_domains l.setting.types.now l.setting.sizing.now l.variables (meant l.setting.variables) l.count l.from (begun 0) l.steps;
  count : length l.known ≡ l.count;
  force : IsInForce (steps_read (begun 0) (take l.at l.steps)) l.facts.items l.marks;
}
