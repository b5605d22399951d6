use Rattle.std.proofs.Common.{◌≡◌, drop, map, ◌++◌}
use Rattle.sail_types.specs.Rows.{comparison, enums_from}
use Rattle.sail_types.proofs.members.push_enums.Given as goal

abbrev pub invariant-loop-definition : goal.invariant-loop-definition
invariant-loop-definition l = record {
  here : l.place ≡ l.definition-index;
  made : l.members ++ map (comparison l.row) (enums_from l.place (drop l.place l.types.definitions))
      ≡ l.initial.members ++ map (comparison l.row) (enums_from 0 l.types.definitions);
}
