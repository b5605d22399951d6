-- Values with the types at which they were made: types all of whose sizes are constants.
use Rattle.std.specs.Prelude.{ℕ, ℤ, pos, List, [], ◌∷◌, map, Option, Some, None, option_map}
use Rattle.sail_types.specs.Named.{payload as payload_type}
use Rattle.sail_types.specs.declared.table.Types.{Types}
use Rattle.sail_types.specs.declared.types.Typ.{Typ}
use Rattle.sail_types.specs.declared.values.Value.{Value}
use Rattle.sail_core.specs.Making.{Part, component, payload, one_item, without_first}
use Rattle.size_values.specs.declared.constants.Constant.{Constant}
use Rattle.size_values.specs.declared.constants.Constant.TheVariants as C
use Rattle.size_values.specs.declared.sized.Sized.{Sized, Sized-F, out-Sized}
use Rattle.size_values.specs.declared.sized.Sized.TheOpen as Z
use Rattle.size_values.specs.declared.sized.Sized.TheVariants as S
use Rattle.size_values.specs.Sized.{sized_at, typ_sized}

pub record Item : Type 0 where
  pub typ : Sized
  pub val : Value

abbrev pub item : Sized → Value → Item
item s v = record { typ = s; val = v }

abbrev pub vals : List Item → List Value
vals xs = map (λ x. x.val) xs

abbrev pub typs : List Item → List Sized
typs xs = map (λ x. x.typ) xs

-- each of its own type, where there are as many types as values
abbrev pub items_of : List Sized → List Value → Option (List Item)
items_of [] [] = Some []
items_of (s ∷ ss) (v ∷ vs) = option_map (λ xs. item s v ∷ xs) (items_of ss vs)
items_of ss vs = None

-- a type that has no variable
abbrev pub fixed_typ : Types → Typ → Sized
fixed_typ types t = typ_sized types [] t []

-- ---- the types of parts

abbrev pub constant_of : Option ℤ → Constant
constant_of None = C.Number (pos 0)
constant_of (Some z) = C.Number z

abbrev pub payload_of : Types → List (Option ℤ) → List Sized → Option Typ → Sized
payload_of types zs ss None = S.Never
payload_of types zs ss (Some t) = typ_sized types ss t (map constant_of zs)

-- of a union's constructor, under the union's arguments
abbrev pub payload_typ : Types → ℕ → ℕ → Sized-F Sized → Sized
payload_typ types u c (Z.Named v zs ss) = payload_of types zs ss (payload_type types u c)
payload_typ types u c s = S.Never

abbrev pub component_typ : ℕ → Sized-F Sized → Sized
component_typ i (Z.Tuple ss) = sized_at ss i
component_typ i s = S.Never

abbrev pub item_typ : Sized-F Sized → Sized
item_typ (Z.List s) = s
item_typ (Z.Vector n s) = s
item_typ s = S.Never

abbrev pub part_typ : Types → Part → Sized → Sized
part_typ types (component i) s = component_typ i (out-Sized s)
part_typ types (payload u c) s = payload_typ types u c (out-Sized s)
part_typ types one_item s = item_typ (out-Sized s)
part_typ types without_first s = s
