use Rattle.std.proofs.Common.{◌≡◌, map, take}
use Rattle.model_state.specs.RunState.{zero_value}
use Rattle.model_state.proofs.state.fresh.zeros.Given as goal

abbrev pub invariant-loop-register : goal.invariant-loop-register
invariant-loop-register l = l.values ≡ map (zero_value l.types) (take l.register-index l.registers)
