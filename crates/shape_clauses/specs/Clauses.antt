-- A clause of a function, of a measure or of a mapping in one direction, and several that are tried in order (Sail language manual,
-- "Functions", "Mappings").
use Rattle.std.specs.Prelude.{ℕ, nat_eq, Bool, false, List, [], ◌∷◌, ◌++◌, length, map, Option, Some, None, if◌then◌else◌}
use Rattle.sail_base.specs.declared.place.Place.{Place}
use Rattle.sail_syntax.specs.declared.types.TyExp.{TyExp}
use Rattle.sail_syntax.specs.declared.patterns.Pat.{Pat}
use Rattle.sail_types.specs.declared.shapes.Shape.{Shape}
use Rattle.sail_core.specs.declared.patterns.Arm.{Arm}
use Rattle.sail_core.specs.declared.patterns.Arm.TheVariants as A
use Rattle.sail_core.specs.declared.tree.Kind.TheVariants as K
use Rattle.sail_core.specs.declared.tree.Core.{Core}
use Rattle.shape_rules.specs.declared.error.ShapeError.{ShapeError}
use Rattle.shape_rules.specs.declared.error.ShapeError.TheVariants as error
use Rattle.shape_rules.specs.Findings.{Found, over, missing, cast}
use Rattle.shape_rules.specs.Written.{joined}
use Rattle.shape_rules.specs.Scopes.{Setting, under}
use Rattle.shape_rules.specs.Calls.{Elaborate, is_unit}
use Rattle.shape_rules.specs.Patterns.{Piece, piece, unit_piece, LookedAll, each_looked, no_widths}
use Rattle.shape_rules.specs.Targets.{Part}
use Rattle.shape_rules.specs.Values.{typed_found}

-- one clause: how it looks at its arguments, its body, and all failures in it
pub record Claused : Type 0 where
  pub arm : Arm
  pub body : Core
  pub faults : List ShapeError

-- ---- parameters

-- `()` is one parameter where the one parameter is unit
abbrev pub takes_one_unit : List Shape → Bool
takes_one_unit (s ∷ []) = is_unit s
takes_one_unit ss = false

abbrev pub is_one_unit : List Shape → List Pat → Bool
is_one_unit params [] = takes_one_unit params
is_one_unit params (p ∷ ps) = false

abbrev pub parameter_pieces : Place → List Shape → List Pat → List Piece
parameter_pieces place params ps = if is_one_unit params ps then unit_piece place ∷ [] else map piece ps

-- ---- one clause

-- `-> T` makes the body one of an annotated expression
abbrev pub body_part : Option TyExp → Part → Elaborate
body_part None body = body.elaborate
body_part (Some typ) body = typed_found body.place body typ

abbrev pub clause_with : LookedAll → Place → Found → Claused
clause_with ps at_body body = record { arm = A.Nested ps.patterns; body = cast body.core at_body; faults = ps.faults ++ body.faults }

-- the body is wanted where the names that the parameters bind are in scope
abbrev pub clause_under : Setting → Place → Elaborate → Shape → LookedAll → Claused
clause_under setting at_body body want ps = clause_with ps at_body (body setting (under ps.binds []) want)

-- another count of parameters than is wanted (M15), at the first word of the clause
abbrev pub miscounted : Place → ℕ → ℕ → Claused
miscounted place wanted found = record { arm = A.Nested []; body = missing place; faults = error.Arity place wanted found ∷ [] }

abbrev pub clause_of : Setting → Place → List Shape → List Piece → Place → Elaborate → Shape → Claused
clause_of setting place params pieces at_body body want =
    if nat_eq (length params) (length pieces) then clause_under setting at_body body want (each_looked pieces setting no_widths params)
    else miscounted place (length params) (length pieces)

-- a clause at a place: its parameters, of these shapes; its body, of the wanted shape; and the type that may be written for the body
abbrev pub clause_read : Setting → Place → List Shape → List Pat → Part → Option TyExp → Shape → Claused
clause_read setting place params parameters body typ want =
    clause_of setting place params (parameter_pieces place params parameters) body.place (body_part typ body) want

-- ---- clauses, tried in order

abbrev pub clauses_arms : List Claused → List Arm
clauses_arms cs = map (λ c. c.arm) cs

abbrev pub clauses_bodies : List Claused → List Core
clauses_bodies cs = map (λ c. c.body) cs

abbrev pub core_of : Place → List Arm → List Core → Core
core_of place arms bodies = over place (K.Clauses arms) bodies

abbrev pub clauses_core : Place → List Claused → Core
clauses_core place cs = core_of place (clauses_arms cs) (clauses_bodies cs)

abbrev pub clauses_faults : List Claused → List ShapeError
clauses_faults cs = joined (map (λ c. c.faults) cs)
