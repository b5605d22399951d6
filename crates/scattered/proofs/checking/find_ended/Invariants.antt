use Rattle.std.proofs.Common.{◌≡◌, ℕ, false, length, get_or, take}
use Rattle.std.specs.List.{zip}
use Rattle.scattered.specs.Refused.{is_ended}
use Rattle.scattered.proofs.checking.find_ended.Given as goal

abbrev pub invariant-loop-index : goal.invariant-loop-index
invariant-loop-index l = record {
  count : length l.ended.items ≡ length l.definitions;
  marks : (number : ℕ) → get_or l.ended.items number false ≡ is_ended (take l.index (zip l.definitions l.openings)) number;
}
