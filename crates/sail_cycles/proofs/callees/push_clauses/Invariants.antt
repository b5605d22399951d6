use Rattle.std.proofs.Common.{◌≡◌, ◌++◌, drop}
use Rattle.std.specs.Prelude.{flat_map}
use Rattle.sail_names.specs.Known.{known_of}
use Rattle.sail_cycles.specs.Cycles.{clause_callees}
use Rattle.sail_cycles.proofs.callees.push_clauses.Given as goal

abbrev pub invariant-loop-clause : goal.invariant-loop-clause
invariant-loop-clause l = l.list ++ flat_map (clause_callees l.which (known_of l.names)) (drop l.clause-index l.clauses)
    ≡ l.initial.list ++ flat_map (clause_callees l.which (known_of l.names)) l.clauses
