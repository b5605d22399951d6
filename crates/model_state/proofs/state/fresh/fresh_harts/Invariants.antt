use Rattle.std.proofs.Common.{◌≡◌, replicate}
use Rattle.model_state.specs.RunState.{fresh_hart}
use Rattle.model_state.proofs.state.fresh.fresh_harts.Given as goal

abbrev pub invariant-loop : goal.invariant-loop
invariant-loop l = l.harts.items ≡ replicate l.counter (fresh_hart l.types l.registers)
