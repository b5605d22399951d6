use Rattle.std.proofs.Common.{◌≡◌, drop, map}
use Rattle.sail_core.specs.Fragments.{all_true, core_in}
use Rattle.sail_core.proofs.fragments.+core_in.Given as goal

abbrev pub invariant-cores_in-loop-core : goal.invariant-cores_in-loop-core
invariant-cores_in-loop-core l = all_true (map (core_in l.fragment) (drop l.core-index l.cores)) ≡ all_true (map (core_in l.fragment) l.cores)
