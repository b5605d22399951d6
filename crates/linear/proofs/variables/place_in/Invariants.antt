use Rattle.std.proofs.Common.{◌≡◌, ◌+◌, drop}
use Rattle.linear.specs.Choices.{place_of}
use Rattle.linear.proofs.variables.place_in.Given as goal

abbrev pub invariant-loop-other : goal.invariant-loop-other
invariant-loop-other l = record {
  place : l.place ≡ l.other-index;
  same : l.place + place_of (drop l.other-index l.atoms) l.atom ≡ place_of l.atoms l.atom;
}
