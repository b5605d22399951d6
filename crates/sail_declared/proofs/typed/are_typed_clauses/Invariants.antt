use Rattle.std.proofs.Common.{◌≡◌, drop}
use Rattle.std.specs.List.{list_all}
use Rattle.sail_declared.specs.Wanting.{is_typed_clause}
use Rattle.sail_declared.proofs.typed.are_typed_clauses.Given as goal

abbrev pub invariant-loop-clause : goal.invariant-loop-clause
invariant-loop-clause l = list_all is_typed_clause (drop l.clause-index l.clauses) ≡ list_all is_typed_clause l.clauses
