use Rattle.std.proofs.Common.{◌≡◌, drop}
use Rattle.sized_trees.specs.Cases.{place_from}
use Rattle.sized_trees.proofs.leads.place_in.Given as goal

-- the rest decides
abbrev pub invariant-loop-other : goal.invariant-loop-other
invariant-loop-other l = record {
  here : l.at ≡ l.other-index;
  place : place_from l.at l.instance (drop l.other-index l.list) ≡ place_from 0 l.instance l.list;
}
