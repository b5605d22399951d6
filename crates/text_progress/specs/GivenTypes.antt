-- Types whose widths, lengths and arguments are over type variables that stand for numbers (Sail language manual, "Type variables").
use Rattle.std.specs.Prelude.{◌≡◌, ℕ, Bool, true, ◌&&◌, List, [], map, Some}
use Rattle.sail_base.specs.declared.kind.Kind.TheVariants as Sort
use Rattle.sail_syntax.specs.declared.types.TyExp.{TyExp}
use Rattle.sail_types.specs.declared.numbers.Index.{Index}
use Rattle.sail_types.specs.declared.numbers.Index.TheVariants as N
use Rattle.sail_types.specs.declared.types.Typ.{Typ, Typ-F, fold-Typ}
use Rattle.sail_types.specs.declared.types.Typ.TheOpen as T
use Rattle.sail_core.specs.Numbers.{Givens}
use Rattle.sail_names.specs.Patterns.{type_failures}
use Rattle.shape_rules.specs.declared.callees.Mapping.{Mapping}
use Rattle.shape_rules.specs.declared.callees.Meant.TheVariants as M
use Rattle.shape_rules.specs.Written.{typ_in}
use Rattle.shape_meanings.specs.Whole.{all_of}
use Rattle.shape_progress.specs.Conditions.{given_in}
use Rattle.shape_stands.specs.Inside.{Position}

-- an argument that is a truth names no width
abbrev pub index_given : Givens → Index → Bool
index_given nu (N.Number n) = given_in nu n
index_given nu (N.Truth c) = true

-- what a type binds is known where it is opened
abbrev pub form_given : Givens → Typ-F Bool → Bool
form_given nu (T.Bits n) = given_in nu n
form_given nu (T.List b) = b
form_given nu (T.Vector n b) = b
form_given nu (T.Tuple bs) = all_of bs
form_given nu (T.Named i is bs) = all_of (map (index_given nu) is) && all_of bs
form_given nu form = true

abbrev pub typ_given : Givens → Typ → Bool
typ_given nu = fold-Typ Bool (form_given nu)

abbrev pub indices_given : Givens → List Index → Bool
indices_given nu is = all_of (map (index_given nu) is)

abbrev pub all_typs_given : Givens → List Typ → Bool
all_typs_given nu ts = all_of (map (typ_given nu) ts)

-- the types that a side of a mapping's clause can go by
pub record SidesGiven (here : Position) (nu : Givens) : Type 0 where
  pub typs : (typ : TyExp) (t : Typ) → type_failures Sort.Type typ here.names ≡ [] → typ_in here.setting.within typ ≡ Some t → typ_given nu t ≡ true
  pub mappings : (name : List ℕ) (m : Mapping) → here.setting.value name ≡ Some (M.Mapping m)
      → (typ_given nu m.left ≡ true) × (typ_given nu m.right ≡ true)
  pub directions : (d : ℕ) (t : Typ) → here.setting.given_by d ≡ Some t → typ_given nu t ≡ true
