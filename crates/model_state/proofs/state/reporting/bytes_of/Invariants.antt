use Rattle.std.proofs.Common.{◌≡◌, take}
use Rattle.model_state.proofs.state.reporting.bytes_of.Given as goal

abbrev pub invariant-loop-i : goal.invariant-loop-i
invariant-loop-i g l = l.bytes.items ≡ take l.i (g.M.Memory.bytes l.memory)
