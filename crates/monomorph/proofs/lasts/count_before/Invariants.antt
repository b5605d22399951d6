use Rattle.std.proofs.Common.{◌≡◌, ◌≤◌, ◌+◌, drop}
use Rattle.monomorph.specs.Lasts.{count_before}
use Rattle.monomorph.proofs.lasts.count_before.Given as goal

abbrev pub invariant-loop-opening : goal.invariant-loop-opening
invariant-loop-opening l = record {
  few : l.count ≤ l.opening-index;
  counted : l.count + count_before l.place (drop l.opening-index l.openings) ≡ count_before l.place l.openings;
}
