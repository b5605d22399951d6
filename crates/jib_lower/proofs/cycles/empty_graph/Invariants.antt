use Rattle.std.proofs.Common.{◌≡◌, ℕ, List, length}
use Rattle.jib_lower.specs.Cycles.{Falls}
use Rattle.jib_lower.proofs.cycles.empty_graph.Given as goal

abbrev pub invariant-loop : goal.invariant-loop
invariant-loop l = record { many : length l.graph ≡ l.index; falls : (numbers : List ℕ) → Falls numbers l.graph }
