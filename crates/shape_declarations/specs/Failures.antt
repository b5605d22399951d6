-- Failures of the types that definitions write: of types and signatures, of the sides of mappings, and of registers (Sail language manual,
-- "Types", "Mappings", "Registers").
use Rattle.std.specs.Prelude.{List, [], ◌∷◌, ◌++◌, map, Option, Some, None, if◌then◌else◌}
use Rattle.sail_syntax.specs.Places.{type_place}
use Rattle.sail_syntax.specs.declared.types.TyExp.{TyExp}
use Rattle.sail_syntax.specs.declared.definitions.Def.{Def}
use Rattle.sail_syntax.specs.declared.definitions.Def.TheVariants as D
use Rattle.sail_syntax.specs.declared.definitions.Member.{Member as AMember}
use Rattle.sail_syntax.specs.declared.definitions.Sides.{Sides}
use Rattle.sail_types.specs.declared.table.Types.{Types}
use Rattle.sail_types.specs.declared.types.Typ.{Typ}
use Rattle.sail_kinds.specs.Scopes.{Within}
use Rattle.shape_rules.specs.declared.error.ShapeError.{ShapeError}
use Rattle.shape_rules.specs.Findings.{ill_shaped}
use Rattle.shape_rules.specs.Written.{typ_in, written_faults, joined}
use Rattle.shape_models.specs.Models.{Tabled, within_variables, params_variables}
use Rattle.shape_declarations.specs.Zeros.{has_zero}
use Rattle.shape_declarations.specs.Vals.{val_faults}

-- fields or constructors
abbrev pub members_faults : Within → List AMember → List ShapeError
members_faults within ms = joined (map (λ m. written_faults within m.typ) ms)

-- the sides of a mapping
abbrev pub sides_faults : Within → Option Sides → List ShapeError
sides_faults within None = []
sides_faults within (Some sides) = written_faults within sides.left ++ written_faults within sides.right

-- ---- types and signatures, each read under its own variables

abbrev pub typ_faults : Tabled → Def → List ShapeError
typ_faults tabled (D.Alias place name variables kind typ) = written_faults (within_variables tabled (params_variables variables)) typ
typ_faults tabled (D.Struct place name variables fs) = members_faults (within_variables tabled (params_variables variables)) fs
typ_faults tabled (D.Union place name variables cs) = members_faults (within_variables tabled (params_variables variables)) cs
typ_faults tabled (D.Val place name quantifier from arrow to) =
    val_faults arrow quantifier.variables from to (within_variables tabled (params_variables quantifier.variables))
typ_faults tabled d = []

abbrev pub types_faults : Tabled → List Def → List ShapeError
types_faults tabled text = joined (map (typ_faults tabled) text)

-- ---- registers

-- a type without a zero, where it is written (M14)
abbrev pub zero_faults : Types → TyExp → Option Typ → List ShapeError
zero_faults types text None = []
zero_faults types text (Some t) = if has_zero types t then [] else ill_shaped (type_place text) ∷ []

-- the type of a register
abbrev pub register_faults : Types → Within → TyExp → List ShapeError
register_faults types within text = written_faults within text ++ zero_faults types text (typ_in within text)
