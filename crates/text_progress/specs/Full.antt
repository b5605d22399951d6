-- Each `with` in the guards of a text's mappings has a field, as the grammar has it (Sail language manual, "Structs", "Mappings").
use Rattle.std.specs.Prelude.{◌≡◌, true, List, [], ◌∷◌, Option, Some, None}
use Rattle.sail_syntax.specs.declared.definitions.Def.{Def}
use Rattle.sail_syntax.specs.declared.definitions.Def.TheVariants as D
use Rattle.sail_syntax.specs.declared.definitions.MappingClause.{MappingClause}
use Rattle.sail_syntax.specs.declared.expressions.Exp.{Exp}
use Rattle.shape_stands.specs.Manner.{manner}

abbrev pub guard_full : Option Exp → Type 0
guard_full None = Unit {0}
guard_full (Some g) = (manner g).is_full ≡ true

abbrev pub GuardsFull : List MappingClause → Type 0
GuardsFull [] = Unit {0}
GuardsFull (c ∷ cs) = guard_full c.left.guard × guard_full c.right.guard × GuardsFull cs

abbrev pub MappingsFull : List Def → Type 0
MappingsFull [] = Unit {0}
MappingsFull ((D.Mapping place name sides cs) ∷ text) = GuardsFull cs × MappingsFull text
MappingsFull (d ∷ text) = MappingsFull text
