-- Enums have no fields and no constructors, unions no fields and no members.
use Rattle.std.proofs.Common.{◌≡◌, ℕ, List, [], ap, ◌∙◌, sym, true, None, slice_get, nat_eq, nat_lt, length, arith}
use Rattle.sail_types.specs.Named.{in_form, form_fields, form_constructors, form_members, fields, constructors, members, payload, typ_of}
use Rattle.sail_types.specs.Shapes.{fields_fit, payload_fits, Asked}
use Rattle.sail_types.specs.declared.shapes.Shape.{Shape}
use Rattle.sail_types.specs.declared.table.Types.{Types}
use Rattle.shape_joins.proofs.Order.{no, equal}
use Rattle.shape_progress.specs.PatternRules.{IsEnum, IsUnion}

enum_fields : (types : Types) (i : ℕ) → IsEnum types i → fields types i ≡ None
enum_fields types i is = ap (in_form None form_fields) is.2 ∙ ap form_fields is.3

enum_constructors : (types : Types) (i : ℕ) → IsEnum types i → constructors types i ≡ []
enum_constructors types i is = ap (in_form [] form_constructors) is.2 ∙ ap form_constructors is.3

union_fields : (types : Types) (i : ℕ) → IsUnion types i → fields types i ≡ None
union_fields types i is = ap (in_form None form_fields) is.2 ∙ ap form_fields is.3

union_members : (types : Types) (i : ℕ) → IsUnion types i → members types i ≡ []
union_members types i is = ap (in_form [] form_members) is.2 ∙ ap form_members is.3

-- no struct is of an enum's or a union's place
pub no_fields : {A : Type 0} (types : Types) (i : ℕ) (vs : List Asked) (ss : List Shape) → fields types i ≡ None
    → fields_fit vs ss (fields types i) ≡ true → A
no_fields types i vs ss e h = no (sym (ap (fields_fit vs ss) e) ∙ h)

pub no_struct_of_enum : {A : Type 0} (types : Types) (i j : ℕ) (vs : List Asked) (ss : List Shape) → IsEnum types j → nat_eq i j ≡ true
    → fields_fit vs ss (fields types i) ≡ true → A
no_struct_of_enum types i j vs ss is same h = no_fields types i vs ss (ap (fields types) (equal i j same) ∙ enum_fields types j is) h

pub no_struct_of_union : {A : Type 0} (types : Types) (i j : ℕ) (vs : List Asked) (ss : List Shape) → IsUnion types j → nat_eq i j ≡ true
    → fields_fit vs ss (fields types i) ≡ true → A
no_struct_of_union types i j vs ss is same h = no_fields types i vs ss (ap (fields types) (equal i j same) ∙ union_fields types j is) h

-- no union value is of an enum's place
pub no_union_of_enum : {A : Type 0} (types : Types) (i j k : ℕ) (v : Asked) (ss : List Shape) → IsEnum types j → nat_eq i j ≡ true
    → payload_fits v ss (payload types i k) ≡ true → A
no_union_of_enum types i j k v ss is same h =
    no (sym (ap (λ fs. payload_fits v ss (typ_of (slice_get fs k))) (ap (constructors types) (equal i j same) ∙ enum_constructors types j is)) ∙ h)

-- no member is of a union's place
pub no_member_of_union : {A : Type 0} (types : Types) (i j k : ℕ) → IsUnion types j → nat_eq i j ≡ true → nat_lt k (length (members types i)) ≡ true → A
no_member_of_union types i j k is same h =
    absurd (none_below k (sym (ap (λ ms. nat_lt k (length ms)) (ap (members types) (equal i j same) ∙ union_members types j is)) ∙ h))
  where
    none_below : (k : ℕ) → nat_lt k 0 ≡ true → ⊥
    none_below k h = grind (arith, h)
