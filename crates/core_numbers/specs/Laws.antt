-- What the numbers of nodes are for: each tells one node of its definition.
use Rattle.std.specs.Prelude.{ℕ}
use Rattle.sail_core.specs.Nodes.{AllDiffer, numbers}
use Rattle.sail_core.specs.declared.tree.Core.{Core}
use Rattle.core_numbers.specs.Numbers.{numbered}

-- in a definition that is numbered no number stands twice
abbrev pub NumbersDiffer : Type 0
NumbersDiffer = (c : Core) (n : ℕ) → AllDiffer (numbers (numbered c n).it)
