use Rattle.std.proofs.Common.{◌≡◌, drop}
use Rattle.lowered_ends.specs.Keeping.{are_kept}
use Rattle.lowered_ends.proofs.keeping.+keeps.Given as goal

abbrev pub invariant-all_keep-loop-at : goal.invariant-all_keep-loop-at
invariant-all_keep-loop-at l = are_kept (drop l.at l.parts) (drop l.at l.types) l.variable l.number ≡ are_kept l.parts l.types l.variable l.number
