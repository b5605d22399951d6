use Rattle.std.proofs.Common.{◌≡◌, ◌++◌, drop}
use Rattle.monomorph.specs.Found.{instances_in}
use Rattle.tabled_models.proofs.cores.instances_of.Given as goal

abbrev pub invariant-loop-one : goal.invariant-loop-one
invariant-loop-one l = l.list ++ instances_in (drop l.one-index l.found) ≡ instances_in l.found
