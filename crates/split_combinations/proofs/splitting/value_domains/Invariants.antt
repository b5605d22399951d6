use Rattle.std.proofs.Common.{◌≡◌, ◌+◌, ◌++◌, drop, length, map}
use Rattle.size_values.specs.Numbers.{meant}
use Rattle.size_splits.specs.Reading.{each_first, pointed, value_domains}
use Rattle.split_combinations.proofs.splitting.value_domains.Given as goal

abbrev pub invariant-loop-numbers : goal.invariant-loop-numbers
invariant-loop-numbers l =
    let left = drop l.numbers-index l.known in record {
      here : l.variable ≡ l.from + l.numbers-index;
      made : l.made ++ each_first left (value_domains l.setting.types.now l.setting.sizing.now (meant l.setting.variables) (length left)
          (l.from + l.numbers-index) (map pointed l.conditions) l.step l.indices)
          ≡ each_first l.known (value_domains l.setting.types.now l.setting.sizing.now (meant l.setting.variables) (length l.known)
          l.from (map pointed l.conditions) l.step l.indices);
    }
