use Rattle.std.proofs.Common.{◌≡◌, ◌++◌, map, take, drop}
use Rattle.sail_compile.specs.parts.Cycles.{without_cycle}
use Rattle.sail_compile.proofs.checking.forget_cycles.Given as goal

abbrev pub invariant-loop-function : goal.invariant-loop-function
invariant-loop-function l =
    l.functions ≡ map without_cycle (take l.function-index l.fn.functions) ++ drop l.function-index l.fn.functions
