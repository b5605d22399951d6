-- What the rewriting keeps of a tree, and how large it gets.
use Rattle.std.specs.Prelude.{◌≡◌, ℕ, suc, ◌+◌, ◌≤◌, List, [], ◌∷◌, length}
use Rattle.sail_core.specs.declared.patterns.Pattern.{Pattern, fold-Pattern}
use Rattle.sail_core.specs.declared.tree.Core.{Core}
use Rattle.sail_core.specs.Nodes.{numbers}
use Rattle.match_rewrite.specs.Rewriting.{flat_pattern, flat_core}

abbrev pub total : List ℕ → ℕ
total [] = 0
total (n ∷ ns) = n + total ns

-- the nodes of a pattern
abbrev pub pattern_nodes : Pattern → ℕ
pattern_nodes = fold-Pattern ℕ (λ p. suc (total p.parts))

-- a pattern has no more steps than it had nodes
abbrev pub NoMoreStepsThanNodes : Type 0
NoMoreStepsThanNodes = (p : Pattern) (at next : ℕ) → length (flat_pattern p at next).steps ≤ pattern_nodes p

-- the nodes of a core stay, with their numbers
abbrev pub KeepsNumbers : Type 0
KeepsNumbers = (c : Core) → numbers (flat_core c) ≡ numbers c
