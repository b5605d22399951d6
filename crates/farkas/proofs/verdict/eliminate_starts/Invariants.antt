use Rattle.std.proofs.Common.{◌≡◌, drop}
use Rattle.farkas.specs.Verdicts.{eliminated_starts, eliminated_starts_from}
use Rattle.farkas.proofs.verdict.eliminate_starts.Given as goal

abbrev pub invariant-loop-starts : goal.invariant-loop-starts
invariant-loop-starts l =
    eliminated_starts_from l.variables (drop l.starts-index l.cases) l.certificates ≡ eliminated_starts l.variables l.cases
