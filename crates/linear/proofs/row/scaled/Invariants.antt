use Rattle.std.proofs.Common.{◌≡◌, drop, take}
use Rattle.linear.specs.Numbers.{are_within, scaled}
use Rattle.linear.proofs.row.scaled.Given as goal

abbrev pub invariant-loop-number : goal.invariant-loop-number
invariant-loop-number l = record {
  products : l.products ≡ scaled l.times (take l.number-index l.numbers);
  within : are_within (scaled l.times (drop l.number-index l.numbers)) ≡ are_within (scaled l.times l.numbers);
}
