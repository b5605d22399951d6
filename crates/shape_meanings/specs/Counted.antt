-- Shapes in which each named type has as many arguments as it has Type parameters.
use Rattle.std.specs.Prelude.{◌≡◌, ℕ, nat_eq, Bool, true, ◌&&◌, List, [], ◌∷◌, length, map, slice_get, Option, Some, None}
use Rattle.sail_base.specs.declared.operators.Operator.{Operator}
use Rattle.sail_base.specs.declared.operators.Prefix.{Prefix}
use Rattle.sail_types.specs.Named.{fields}
use Rattle.sail_types.specs.Shapes.{shape}
use Rattle.sail_types.specs.declared.shapes.Shape.{Shape, Shape-F, fold-Shape}
use Rattle.sail_types.specs.declared.shapes.Shape.TheOpen as S
use Rattle.sail_types.specs.declared.table.Field.{Field}
use Rattle.sail_types.specs.declared.table.Types.{Types}
use Rattle.shape_rules.specs.declared.callees.Candidate.{Candidate}
use Rattle.shape_rules.specs.declared.callees.Meant.{Meant}
use Rattle.shape_rules.specs.declared.callees.Meant.TheVariants as M
use Rattle.shape_rules.specs.declared.locals.Local.{Local}
use Rattle.shape_rules.specs.Calls.{operator_members, prefix_members}
use Rattle.shape_rules.specs.Scopes.{Setting}
use Rattle.shape_rules.specs.Targets.{callees_of}
use Rattle.shape_rules.specs.Values.{variables_if}
use Rattle.shape_meanings.specs.Whole.{all_of}

-- how many Type parameters a named type has
abbrev pub type_count : Types → ℕ → ℕ
type_count types i = variables_if (slice_get types.definitions i)

abbrev pub counted_form : Types → Shape-F Bool → Bool
counted_form types (S.List b) = b
counted_form types (S.Vector b) = b
counted_form types (S.Tuple bs) = all_of bs
counted_form types (S.Named i bs) = nat_eq (length bs) (type_count types i) && all_of bs
counted_form types form = true

abbrev pub counted : Types → Shape → Bool
counted types = fold-Shape Bool (counted_form types)

abbrev pub all_counted : Types → List Shape → Bool
all_counted types ss = all_of (map (counted types) ss)

-- what a candidate takes and gives
abbrev pub AreCounted : Types → List Candidate → Type 0
AreCounted types [] = Unit {0}
AreCounted types (f ∷ fs) = (all_counted types f.params ≡ true) × (counted types f.answer ≡ true) × AreCounted types fs

-- what a name means
abbrev pub MeantCounted : Types → Option Meant → Type 0
MeantCounted types (Some (M.Register r s)) = counted types s ≡ true
MeantCounted types (Some (M.Let i s)) = counted types s ≡ true
MeantCounted types (Some (M.Member i k)) = type_count types i ≡ 0
MeantCounted types (Some (M.Mapping m)) = (counted types (shape m.left) ≡ true) × (counted types (shape m.right) ≡ true)
MeantCounted types meant = AreCounted types (callees_of types meant)

abbrev pub FieldsCounted : Types → Option (List Field) → Type 0
FieldsCounted types None = Unit {0}
FieldsCounted types (Some fs) = all_counted types (map (λ f. shape f.typ) fs) ≡ true

-- names of such shapes
abbrev pub LocalsCounted : Types → List Local → Type 0
LocalsCounted types [] = Unit {0}
LocalsCounted types (l ∷ ls) = (counted types l.shape ≡ true) × LocalsCounted types ls

-- all that is known in a setting
pub record Counts (setting : Setting) : Type 0 where
  pub values : (name : List ℕ) → MeantCounted setting.types (setting.value name)
  pub operators : (operator : Operator) → AreCounted setting.types (operator_members setting operator)
  pub prefixes : (prefix : Prefix) → AreCounted setting.types (prefix_members setting prefix)
  pub exception : (i : ℕ) → setting.exception ≡ Some i → type_count setting.types i ≡ 0
  pub fields : (i : ℕ) → FieldsCounted setting.types (fields setting.types i)
