use Rattle.std.proofs.Common.{◌≡◌, ◌++◌, ℕ, List, drop}
use Rattle.jib_lower.specs.Crossings.{stated_in}
use Rattle.jib_lower.proofs.crossings.push_statements.Given as goal

-- the directions from here on stand behind those so far
abbrev pub invariant-loop-statement : goal.invariant-loop-statement
invariant-loop-statement l = (new : List ℕ) → new ≡ l.asked ++ stated_in (drop l.statement-index l.statements) → new ≡ l.initial.asked ++ stated_in l.statements
