-- What the contracts of private functions say.
use Rattle.std.specs.Prelude.{List, Option, Some, None}
use Rattle.sail_syntax.specs.declared.definitions.Def.{Def}
use Rattle.sail_syntax.specs.declared.definitions.Def.TheVariants as D
use Rattle.sail_core.specs.declared.written.WrittenNumber.{WrittenNumber}
use Rattle.shape_models.specs.Models.{Tabled}
use Rattle.shape_declarations.specs.Signatures.{numbers_of_val}

-- the numbers in a definition that is a `val`
abbrev pub declared_numbers : Tabled → Def → Option (List WrittenNumber)
declared_numbers tabled (D.Val place name quantifier from arrow to) = Some (numbers_of_val tabled quantifier from to)
declared_numbers tabled d = None
