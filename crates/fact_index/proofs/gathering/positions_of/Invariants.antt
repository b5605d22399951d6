use Rattle.std.proofs.Common.{◌≡◌, ℕ, true, take}
use Rattle.fact_index.specs.Filed.{has, IsIn}
use Rattle.fact_index.proofs.gathering.positions_of.Given as goal

abbrev pub invariant-loop-key : goal.invariant-loop-key
invariant-loop-key l = (key position : ℕ) → has (take l.key-index l.keys) key ≡ true → IsIn l.lists key position → has l.positions.items position ≡ true
