use Rattle.std.proofs.Common.{◌≡◌, ◌++◌, drop, map}
use Rattle.size_notes.specs.Behind.{node_of, statements_behind}
use Rattle.size_notes.proofs.behind.push_statements.Given as goal

abbrev pub invariant-loop-statement : goal.invariant-loop-statement
invariant-loop-statement l =
    l.made ++ statements_behind l.numbers (drop l.statement-index l.statements) (map (node_of l.numbers) l.left)
    ≡ l.fn.made ++ statements_behind l.numbers l.statements (map (node_of l.numbers) l.parts)
