use Rattle.std.proofs.Common.{◌≡◌, ◌≤◌, ◌++◌, drop}
use Rattle.constraint_gen.specs.Reading.{names_behind}
use Rattle.constraint_gen.proofs.naming.names_behind.Given as goal

abbrev pub invariant-loop-own : goal.invariant-loop-own
invariant-loop-own l = record {
  names : l.names ++ names_behind l.unnamed (drop l.own-index l.owns) ≡ names_behind 0 l.owns;
  few : l.unnamed ≤ l.own-index;
}
