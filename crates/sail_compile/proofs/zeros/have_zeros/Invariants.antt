use Rattle.std.proofs.Common.{◌≡◌, drop}
use Rattle.sail_compile.specs.Zeros.{have_zeros}
use Rattle.sail_compile.proofs.zeros.have_zeros.Given as goal

-- the rest decides
abbrev pub invariant-loop-register : goal.invariant-loop-register
invariant-loop-register l = have_zeros l.types (drop l.register-index l.registers) ≡ have_zeros l.types l.registers
