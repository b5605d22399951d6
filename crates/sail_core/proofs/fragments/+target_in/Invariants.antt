use Rattle.std.proofs.Common.{◌≡◌, drop, map}
use Rattle.sail_core.specs.Fragments.{all_true, target_in}
use Rattle.sail_core.proofs.fragments.+target_in.Given as goal

abbrev pub invariant-targets_in-loop-target : goal.invariant-targets_in-loop-target
invariant-targets_in-loop-target l = all_true (map (target_in l.fragment) (drop l.target-index l.targets)) ≡ all_true (map (target_in l.fragment) l.targets)
