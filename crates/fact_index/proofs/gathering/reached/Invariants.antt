use Rattle.std.proofs.Common.{◌≡◌, ◌-◌, ℕ, true}
use Rattle.fact_index.specs.Filed.{has}
use Rattle.fact_index.specs.Gathered.{AreListed}
use Rattle.fact_index.proofs.Reaching.{AreFollowed}
use Rattle.fact_index.proofs.gathering.reached.Given as goal

abbrev pub invariant-loop-at : goal.invariant-loop-at
invariant-loop-at l = record {
  listed : AreListed l.keys;
  begun : (key : ℕ) → has l.from key ≡ true → has l.keys.list key ≡ true;
  followed : AreFollowed l.lists l.facts l.at l.keys.list;
}

abbrev pub decreases-loop-at : goal.decreases-loop-at
decreases-loop-at l = 18446744073709551615 - l.at
