-- Fields of structs: a name stands for the same place in the core and in the source.
use Rattle.std.proofs.Common.{◌≡◌, ℕ, zero, suc, ◌+◌, List, [], ◌∷◌, map, length, ap, sym, ◌∙◌, refl, subst, Bool, true, false, not, cond, Option}
use Rattle.std.proofs.Common.{Some, None}
use Rattle.std.proofs.Common.{nat_eq, nat_lt, slice_get, slice_set, option_map, if◌then◌else◌, arith}
use Rattle.std.proofs.lemmas.Bool.{and_parts}
use Rattle.std.specs.List.{position, position_or_len}
use Rattle.std.specs.Str.{bytes_eq}
use Rattle.sail_types.specs.Named.{fields, field_types}
use Rattle.sail_types.specs.Shapes.{at, fits, each_fits, fields_fit, form_fits, put, shape, shapes_under, Asked}
use Rattle.sail_types.specs.Sums.{and_then}
use Rattle.sail_types.specs.declared.shapes.Shape.{Shape}
use Rattle.sail_types.specs.declared.shapes.Shape.TheOpen as S
use Rattle.sail_types.specs.declared.table.Field.{Field}
use Rattle.sail_types.specs.declared.table.Types.{Types}
use Rattle.sail_types.specs.declared.types.Typ.{Typ}
use Rattle.sail_types.specs.declared.values.Value.{Value, Value-F}
use Rattle.sail_types.specs.declared.values.Value.TheFolds.{map-Value}
use Rattle.sail_types.specs.declared.values.Value.TheOpen as W
use Rattle.sail_types.specs.declared.values.Value.TheVariants as Val
use Rattle.sail_core.specs.Values.{field, with_field, set_at}
use Rattle.shape_joins.proofs.Order.{no, two, equal, same_nat}
use Rattle.shape_joins.proofs.JoinsLeast.{some_same, none}
use Rattle.sail_meaning.specs.Named.{field_place}
use Rattle.sail_meaning.specs.Targets.{field_taken, field_changed}
use Rattle.shape_rules.specs.Targets.{InStruct, one_further, field_named}

-- ---- the place of a field

first_place : (n : ℕ) → nat_lt 0 (suc n) ≡ true
first_place n = grind arith

one_more : (n len : ℕ) → nat_lt n len ≡ true → nat_lt (1 + n) (suc len) ≡ true
one_more n len h = grind (arith, h)

one_plus : (n : ℕ) → (1 + n) ≡ suc n
one_plus n = omega arith

place_step : (b : Bool) (n len k : ℕ) → nat_lt n len ≡ b → cond b (Some n) None ≡ Some k → cond (nat_lt (1 + n) (suc len)) (Some (1 + n)) None ≡ Some (suc k)
place_step true n len k is h = ap (λ b. cond b (Some (1 + n)) None) (one_more n len is) ∙ ap Some (one_plus n ∙ ap suc (some_same n k h))
place_step false n len k is h = none h

-- a field stands at its place among the fields, and its type there
abbrev Stands : ℕ → ℕ → List Typ → InStruct → Type 0
Stands n len ts f = (cond (nat_lt n len) (Some n) None ≡ Some f.place) × (slice_get ts f.place ≡ Some f.typ)

field_step : (b : Bool) (n len : ℕ) (typ : Typ) (ts : List Typ) (o : Option InStruct) (f : InStruct) → ((k : InStruct) → o ≡ Some k → Stands n len ts k)
    → (if b then Some (record { place = 0; typ = typ }) else one_further o) ≡ Some f
    → Stands (cond (not b) (1 + n) 0) (suc len) (typ ∷ ts) f
field_step true n len typ ts o f later e =
    subst (Stands 0 (suc len) (typ ∷ ts)) (some_same (record { place = 0; typ = typ }) f e) (ap (λ b. cond b (Some 0) None) (first_place len), refl)
field_step false n len typ ts None f later e = none e
field_step false n len typ ts (Some k) f later e =
    let l = later k refl in
    subst (Stands (1 + n) (suc len) (typ ∷ ts)) (some_same (record { place = suc k.place; typ = k.typ }) f e)
    (place_step (nat_lt n len) n len k.place refl l.0, l.1)

pub field_stands : (fs : List Field) (name : List ℕ) (f : InStruct) → field_named name fs ≡ Some f
    → (position (λ g. bytes_eq g.name name) fs ≡ Some f.place) × (slice_get (field_types fs) f.place ≡ Some f.typ)
field_stands [] name f e = none e
field_stands (g ∷ fs) name f e =
    field_step (bytes_eq g.name name) (position_or_len (λ h. bytes_eq h.name name) fs) (length fs) g.typ (field_types fs) (field_named name fs) f
    (λ k is. field_stands fs name k is) e

-- ---- parts of values that have shapes

pub taken_fits : (types : Types) (vs : List Value) (ts : List Shape) (k : ℕ) (u : Value) (t : Shape) → each_fits (map (fits types) vs) ts ≡ true
    → slice_get vs k ≡ Some u → slice_get ts k ≡ Some t → fits types u t ≡ true
taken_fits types [] ts k u t h e f = none e
taken_fits types (v ∷ vs) [] k u t h e f = no h
taken_fits types (v ∷ vs) (s ∷ ts) zero u t h e f =
    subst (λ x. fits types u x ≡ true) (some_same s t f) (subst (λ x. fits types x s ≡ true) (some_same v u e)
    (and_parts (fits types v s) (each_fits (map (fits types) vs) ts) h).0)
taken_fits types (v ∷ vs) (s ∷ ts) (suc k) u t h e f = taken_fits types vs ts k u t (and_parts (fits types v s) (each_fits (map (fits types) vs) ts) h).1 e f

pub set_fits : (types : Types) (vs : List Value) (ts : List Shape) (k : ℕ) (u : Value) (t : Shape) → each_fits (map (fits types) vs) ts ≡ true
    → slice_get ts k ≡ Some t → fits types u t ≡ true → each_fits (map (fits types) (slice_set vs k u)) ts ≡ true
set_fits types [] ts k u t h f g = h
set_fits types (v ∷ vs) [] k u t h f g = no h
set_fits types (v ∷ vs) (s ∷ ts) zero u t h f g =
    two (fits types u s) (each_fits (map (fits types) vs) ts) (subst (λ x. fits types u x ≡ true) (sym (some_same s t f)) g)
    (and_parts (fits types v s) (each_fits (map (fits types) vs) ts) h).1
set_fits types (v ∷ vs) (s ∷ ts) (suc k) u t h f g =
    let p = and_parts (fits types v s) (each_fits (map (fits types) vs) ts) h in
    two (fits types v s) (each_fits (map (fits types) (slice_set vs k u)) ts) p.0 (set_fits types vs ts k u t p.1 f g)

pub under_at : (us : List Shape) (ts : List Typ) (k : ℕ) (typ : Typ) → slice_get ts k ≡ Some typ
    → slice_get (shapes_under us ts) k ≡ Some (put (at us) (shape typ))
under_at us [] k typ e = none e
under_at us (t ∷ ts) zero typ e = ap (λ x. Some (put (at us) (shape x))) (some_same t typ e)
under_at us (t ∷ ts) (suc k) typ e = under_at us ts k typ e

pub set_at_is : (vs : List Value) (k : ℕ) (u : Value) (ws : List Value) → set_at vs k u ≡ Some ws → slice_set vs k u ≡ ws
set_at_is vs k u ws e = by_test (nat_lt k (length vs)) e
  where
    by_test : (b : Bool) → (if b then Some (slice_set vs k u) else None) ≡ Some ws → slice_set vs k u ≡ ws
    by_test true e = some_same (slice_set vs k u) ws e
    by_test false e = none e

-- ---- a field, by its place and by its name

abbrev asked : Types → Value-F Value → Value-F Asked
asked types x = map-Value Value Asked (fits types) x

-- a struct's value of a named type is of this struct
own_struct : (types : Types) (i j : ℕ) (vs : List Value) (us : List Shape) → form_fits types (asked types (W.Struct j vs)) (S.Named i us) ≡ true
    → (i ≡ j) × (fields_fit (map (fits types) vs) us (fields types i) ≡ true)
own_struct types i j vs us h =
    let k = and_parts (nat_eq j i) (fields_fit (map (fits types) vs) us (fields types j)) h in
    let same = sym (equal j i k.0) in
    (same, subst (λ n. fields_fit (map (fits types) vs) us (fields types n) ≡ true) (sym same) k.1)

pub field_out : (types : Types) (name : List ℕ) (i k : ℕ) (us : List Shape) (x : Value-F Value) → field_place types i name ≡ Some k
    → form_fits types (asked types x) (S.Named i us) ≡ true → field i k x ≡ field_taken types name x
field_out types name i k us (W.Struct j vs) is h =
    subst (λ n. field i k (W.Struct n vs) ≡ field_taken types name (W.Struct n vs)) (own_struct types i j vs us h).0
    (sym (ap (λ o. and_then o (λ l. field i l (W.Struct i vs))) is))
field_out types name i k us x is h = refl

pub field_into : (types : Types) (name : List ℕ) (i k : ℕ) (us : List Shape) (x : Value-F Value) (u : Value) → field_place types i name ≡ Some k
    → form_fits types (asked types x) (S.Named i us) ≡ true → with_field i k x u ≡ field_changed types name x u
field_into types name i k us (W.Struct j vs) u is h =
    subst (λ n. with_field i k (W.Struct n vs) u ≡ field_changed types name (W.Struct n vs) u) (own_struct types i j vs us h).0
    (sym (ap (λ o. and_then o (λ l. with_field i l (W.Struct i vs) u)) is))
field_into types name i k us x u is h = refl

pub field_fits : (types : Types) (i k : ℕ) (us : List Shape) (fs : List Field) (typ : Typ) (x : Value-F Value) (u : Value) → fields types i ≡ Some fs
    → slice_get (field_types fs) k ≡ Some typ → form_fits types (asked types x) (S.Named i us) ≡ true → field i k x ≡ Some u
    → fits types u (put (at us) (shape typ)) ≡ true
field_fits types i k us fs typ (W.Struct j vs) u are there h e =
    let own = own_struct types i j vs us h in
    let g : slice_get vs k ≡ Some u =
    ap (λ b. if b then slice_get vs k else None) (sym (same_nat i) ∙ ap (λ n. nat_eq n i) own.0) ∙ e in
    taken_fits types vs (shapes_under us (field_types fs)) k u (put (at us) (shape typ))
    (subst (λ o. fields_fit (map (fits types) vs) us o ≡ true) are own.1) g (under_at us (field_types fs) k typ there)
field_fits types i k us fs typ x u are there h e = none e

-- a struct with another value in a field
pub struct_with_fits : (types : Types) (i k : ℕ) (us : List Shape) (fs : List Field) (typ : Typ) (x : Value-F Value) (u y : Value)
    → fields types i ≡ Some fs → slice_get (field_types fs) k ≡ Some typ → form_fits types (asked types x) (S.Named i us) ≡ true
    → fits types u (put (at us) (shape typ)) ≡ true → with_field i k x u ≡ Some y
    → (ws : List Value) × (Val.Struct i ws ≡ y) × (form_fits types (asked types (W.Struct i ws)) (S.Named i us) ≡ true)
struct_with_fits types i k us fs typ (W.Struct j vs) u y are there h g e =
    let own = own_struct types i j vs us h in
    let e2 : option_map (Val.Struct i) (set_at vs k u) ≡ Some y =
    ap (λ b. if b then option_map (Val.Struct i) (set_at vs k u) else None) (sym (same_nat i))
    ∙ ap (λ n. if nat_eq n i then option_map (Val.Struct n) (set_at vs k u) else None) own.0 ∙ e in
    by_set (set_at vs k u) refl e2 (subst (λ o. fields_fit (map (fits types) vs) us o ≡ true) are own.1)
  where
    by_set : (o : Option (List Value)) → set_at vs k u ≡ o → option_map (Val.Struct i) o ≡ Some y
        → each_fits (map (fits types) vs) (shapes_under us (field_types fs)) ≡ true
        → (ws : List Value) × (Val.Struct i ws ≡ y) × (form_fits types (asked types (W.Struct i ws)) (S.Named i us) ≡ true)
    by_set None is e2 all = none e2
    by_set (Some ws) is e2 all = (
      ws,
      some_same (Val.Struct i ws) y e2,
      two (nat_eq i i) (fields_fit (map (fits types) ws) us (fields types i)) (same_nat i)
          (subst (λ o. fields_fit (map (fits types) ws) us o ≡ true) (sym are)
          (subst (λ zs. each_fits (map (fits types) zs) (shapes_under us (field_types fs)) ≡ true) (set_at_is vs k u ws is)
          (set_fits types vs (shapes_under us (field_types fs)) k u (put (at us) (shape typ)) all (under_at us (field_types fs) k typ there) g))),
    )
struct_with_fits types i k us fs typ x u y are there h g e = none e
