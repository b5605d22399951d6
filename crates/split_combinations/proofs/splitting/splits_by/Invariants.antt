use Rattle.std.proofs.Common.{◌≡◌, ◌+◌, ◌++◌, drop}
use Rattle.size_splits.specs.Reading.{splits_by}
use Rattle.split_combinations.proofs.splitting.splits_by.Given as goal

abbrev pub invariant-loop-numbers : goal.invariant-loop-numbers
invariant-loop-numbers l = record {
  here : l.variable ≡ l.from + l.numbers-index;
  made : l.made ++ splits_by l.variable l.count (drop l.numbers-index l.domains) ≡ splits_by l.from 1 l.domains;
}
