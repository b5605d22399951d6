use Rattle.std.proofs.Common.{◌≡◌, drop}
use Rattle.sail_compile.specs.Variables.{latest, clauses_begun}
use Rattle.sail_compile.proofs.variables.latest_clause.Given as goal

-- the clauses that are left decide
abbrev pub invariant-loop-clause : goal.invariant-loop-clause
invariant-loop-clause l = latest l.at l.latest (clauses_begun l.name (drop l.clause-index l.clauses)) ≡ latest l.at l.fn.kept (clauses_begun l.name l.clauses)
