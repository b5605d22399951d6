use Rattle.std.proofs.Common.{◌≡◌, drop}
use Rattle.std.specs.List.{list_all}
use Rattle.tabled_cores.specs.Notes.{is_in_force}
use Rattle.tabled_cores.proofs.made.all_in_force.Given as goal

-- the rest decides
abbrev pub invariant-loop-one : goal.invariant-loop-one
invariant-loop-one l = list_all (is_in_force l.facts) (drop l.one-index l.picked) ≡ list_all (is_in_force l.facts) l.picked
