-- The numbers of a definition's nodes are for other readings: with them its core means what it means without.
use Rattle.std.specs.Prelude.{◌≡◌, ℕ}
use Rattle.sail_types.specs.declared.values.Value.{Value}
use Rattle.sail_core.specs.declared.tree.Core.{Core}
use Rattle.sail_core.specs.Making.{World}
use Rattle.sail_core.specs.Meaning.{core_meaning}
use Rattle.core_numbers.specs.Numbers.{numbered}

abbrev pub NumbersMeanNothing : Type 0
NumbersMeanNothing = (w : World Value) (core : Core) (n : ℕ) → core_meaning w (numbered core n).it ≡ core_meaning w core
