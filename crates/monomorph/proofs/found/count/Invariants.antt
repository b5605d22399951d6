use Rattle.std.proofs.Common.{◌≡◌, ◌≤◌, ◌+◌, drop, length}
use Rattle.monomorph.specs.Found.{instances_in}
use Rattle.monomorph.proofs.found.count.Given as goal

abbrev pub invariant-loop-one : goal.invariant-loop-one
invariant-loop-one l = record {
  within : l.count ≤ l.one-index;
  counted : l.count + length (instances_in (drop l.one-index l.found)) ≡ length (instances_in l.found);
}
