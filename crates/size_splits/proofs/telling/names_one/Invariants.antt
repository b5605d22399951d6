use Rattle.std.proofs.Common.{◌≡◌, drop}
use Rattle.size_splits.specs.Telling.{names_one}
use Rattle.size_splits.proofs.telling.names_one.Given as goal

-- the rest decides
abbrev pub invariant-loop-variable : goal.invariant-loop-variable
invariant-loop-variable l = names_one (drop l.variable-index l.split) l.condition ≡ names_one l.split l.condition
