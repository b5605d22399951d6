-- What the rewriting keeps of a tree, and how large it gets.
use Rattle.std.specs.Prelude.{◌≡◌, ℕ, suc, ◌+◌, ◌*◌, ◌≤◌, List, [], ◌∷◌}
use Rattle.sail_core.specs.declared.patterns.Pattern.{Pattern, fold-Pattern}
use Rattle.sail_core.specs.declared.tree.Core.{Core}
use Rattle.sail_core.specs.declared.model.Direction.{Direction}
use Rattle.sail_core.specs.Nodes.{numbers}
use Rattle.mappings.specs.Rewriting.{free_pattern, free_core, last_number, free_direction}

abbrev pub total : List ℕ → ℕ
total [] = 0
total (n ∷ ns) = n + total ns

-- the nodes of a pattern
abbrev pub pattern_nodes : Pattern → ℕ
pattern_nodes = fold-Pattern ℕ (λ p. suc (total p.parts))

-- a pattern gets at most twice as large
abbrev pub PatternsAtMostDouble : Type 0
PatternsAtMostDouble = (p : Pattern) → pattern_nodes (free_pattern p) ≤ 2 * pattern_nodes p

-- the nodes of a core stay, with their numbers
abbrev pub KeepsNumbers : Type 0
KeepsNumbers = (c : Core) → numbers (free_core c) ≡ numbers c

-- a direction's one new node has the last number
abbrev pub NumbersDirections : Type 0
NumbersDirections = (m : Direction) → numbers (free_direction m).body ≡ last_number ∷ numbers m.body
