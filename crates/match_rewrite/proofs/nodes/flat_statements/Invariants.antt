use Rattle.std.proofs.Common.{◌≡◌, map}
use Rattle.match_rewrite.specs.Rewriting.{flat_statement}
use Rattle.match_rewrite.proofs.nodes.flat_statements.Given as goal

abbrev pub invariant-loop-statement : goal.invariant-loop-statement
invariant-loop-statement l = l.made ≡ map flat_statement l.yielded
