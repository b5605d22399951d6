-- A type that has a value to start at has a zero.
use Rattle.std.proofs.Common.{◌≡◌, ℕ, zero, suc, ℤ, Bool, true, false, ◌&&◌, cond, List, [], ◌∷◌, map, refl, Option, Some, None}
use Rattle.std.specs.Prelude.{slice_get, unwrap_or, option_map}
use Rattle.sail_types.specs.Named.{in_form, field_types}
use Rattle.sail_types.specs.Readings.{read_indices, together, more}
use Rattle.sail_types.specs.Sums.{and_then}
use Rattle.sail_types.specs.Zero.{Asked, deepest, known, each_zero, zero_at, zero_range, zero_vector, zero_named, zero_in_table, form_zero, zero_within}
use Rattle.sail_types.specs.declared.numbers.Index.{Index}
use Rattle.sail_types.specs.declared.table.Definition.{Definition}
use Rattle.sail_types.specs.declared.table.Form.{Form}
use Rattle.sail_types.specs.declared.table.Form.TheVariants as F
use Rattle.sail_types.specs.declared.table.Types.{Types}
use Rattle.sail_types.specs.declared.types.Typ.{Typ, Typ-F, out-Typ}
use Rattle.sail_types.specs.declared.types.Typ.TheOpen as T
use Rattle.sail_types.specs.declared.values.Value.{Value}
use Rattle.sail_types.specs.declared.values.Value.TheVariants as V
use Rattle.shape_declarations.specs.Zeros.{Zeroed, each_zeroed, all_zeroed, has_integer, named_zeroed, table_zeroed_if, form_zeroed, zeroed_within}
use Rattle.shape_declarations.specs.Laws.{ZerosAreTold}

-- where there is a value, the test holds
abbrev Told : Option Value → Bool → Type 0
Told z b = (v : Value) → z ≡ Some v → b ≡ true

-- at each Type variable
abbrev AllTold : List (Option Value) → List Bool → Type 0
AllTold zeros given = (i : ℕ) → Told (zero_at zeros i) (unwrap_or (slice_get given i) false)

-- at the types inside
abbrev Inside : (Typ → Asked) → (Typ → Zeroed) → Type 0
Inside ask test = (t : Typ) (indices : List Index) (zeros : List (Option Value)) (given : List Bool) → AllTold zeros given
    → Told (ask t indices zeros) (test t indices given)

-- ---- parts

more_told : (z : Option Value) (zs : Option (List Value)) (b c : Bool) → Told z b → ((vs : List Value) → zs ≡ Some vs → c ≡ true)
    → (vs : List Value) → more z zs ≡ Some vs → (b && c) ≡ true
more_told None zs b c h k vs e = absurd cc
more_told (Some v) None b c h k vs e = absurd cc
more_told (Some v) (Some us) b c h k vs e =
    let p : b ≡ true = h v refl in
    let q : c ≡ true = k us refl in
    λ i. p i && q i

parts_told : (ask : Typ → Asked) (test : Typ → Zeroed) → Inside ask test → (ts : List Typ) (indices : List Index)
    (zeros : List (Option Value)) (given : List Bool) → AllTold zeros given → (vs : List Value)
    → together (each_zero (map ask ts) indices zeros) ≡ Some vs → all_zeroed (each_zeroed (map test ts) indices given) ≡ true
parts_told ask test inside [] indices zeros given all vs e = refl
parts_told ask test inside (t ∷ ts) indices zeros given all vs e =
    more_told (ask t indices zeros) (together (each_zero (map ask ts) indices zeros)) (test t indices given)
    (all_zeroed (each_zeroed (map test ts) indices given)) (inside t indices zeros given all)
    (parts_told ask test inside ts indices zeros given all) vs e

made_told : (make : List Value → Value) (zs : Option (List Value)) (b : Bool) → ((vs : List Value) → zs ≡ Some vs → b ≡ true)
    → Told (option_map make zs) b
made_told make None b k v e = absurd cc
made_told make (Some vs) b k v e = k vs refl

-- what Type variables stand for inside a named type
each_told : (ask : Typ → Asked) (test : Typ → Zeroed) → Inside ask test → (ts : List Typ) (indices : List Index)
    (zeros : List (Option Value)) (given : List Bool) → AllTold zeros given
    → AllTold (each_zero (map ask ts) indices zeros) (each_zeroed (map test ts) indices given)
each_told ask test inside [] indices zeros given all i v e = absurd cc
each_told ask test inside (t ∷ ts) indices zeros given all zero v e = inside t indices zeros given all v e
each_told ask test inside (t ∷ ts) indices zeros given all (suc i) v e = each_told ask test inside ts indices zeros given all i v e

-- ---- forms

ends_told : (t : Bool) (z : Option Value) → Told (cond t z None) t
ends_told true z v e = refl
ends_told false z v e = absurd cc

range_told : (a b : Option ℤ) → Told (and_then a (λ x. and_then b (zero_range x))) (has_integer a b)
range_told None b v e = absurd cc
range_told (Some x) None v e = absurd cc
range_told (Some x) (Some y) v e = ends_told _ _ v e

vector_told : (k : Option ℤ) (z : Option Value) (b : Bool) → Told z b → Told (and_then k (λ n. and_then z (zero_vector n))) b
vector_told None z b h v e = absurd cc
vector_told (Some n) None b h v e = absurd cc
vector_told (Some n) (Some u) b h v e = h u refl

named_told : (ask : Typ → Asked) (test : Typ → Zeroed) → Inside ask test → (i : ℕ) (indices : List Index) (zeros : List (Option Value))
    (given : List Bool) → AllTold zeros given → (form : Form) → Told (zero_named ask i indices zeros form) (named_zeroed test given indices form)
named_told ask test inside i indices zeros given all (F.Struct fields) v e =
    made_told (V.Struct i) (together (each_zero (map ask (field_types fields)) indices zeros)) _
    (parts_told ask test inside (field_types fields) indices zeros given all) v e
named_told ask test inside i indices zeros given all (F.Union constructors) v e = absurd cc
named_told ask test inside i indices zeros given all (F.Enum members) v e = refl

place_told : (ask : Typ → Asked) (test : Typ → Zeroed) → Inside ask test → (i : ℕ) (indices : List Index) (zeros : List (Option Value))
    (given : List Bool) → AllTold zeros given → (found : Option Definition)
    → Told (in_form None (zero_named ask i indices zeros) found) (in_form false (named_zeroed test given indices) found)
place_told ask test inside i indices zeros given all None v e = absurd cc
place_told ask test inside i indices zeros given all (Some d) v e = named_told ask test inside i indices zeros given all d.form v e

table_told : (types : Types) (ask : Typ → Asked) (test : Typ → Zeroed) → Inside ask test → (i : ℕ) (arguments : Option (List Index))
    (zeros : List (Option Value)) (given : List Bool) → AllTold zeros given
    → Told (and_then arguments (λ is. zero_in_table ask types i is zeros)) (table_zeroed_if types test i arguments given)
table_told types ask test inside i None zeros given all v e = absurd cc
table_told types ask test inside i (Some indices) zeros given all v e =
    place_told ask test inside i indices zeros given all (slice_get types.definitions i) v e

form_told : (types : Types) (ask : Typ → Asked) (test : Typ → Zeroed) → Inside ask test → (form : Typ-F Typ) (indices : List Index)
    (zeros : List (Option Value)) (given : List Bool) → AllTold zeros given
    → Told (form_zero types ask form indices zeros) (form_zeroed types test form indices given)
form_told types ask test inside T.Unit indices zeros given all v e = refl
form_told types ask test inside T.Bool indices zeros given all v e = refl
form_told types ask test inside (T.Truth c) indices zeros given all v e = absurd cc
form_told types ask test inside T.Bit indices zeros given all v e = refl
form_told types ask test inside (T.Bits n) indices zeros given all v e = refl
form_told types ask test inside (T.Int n) indices zeros given all v e = absurd cc
form_told types ask test inside (T.Range low high) indices zeros given all v e = range_told (known indices low) (known indices high) v e
form_told types ask test inside T.String indices zeros given all v e = absurd cc
form_told types ask test inside (T.List t) indices zeros given all v e = absurd cc
form_told types ask test inside (T.Vector n t) indices zeros given all v e =
    vector_told (known indices n) (ask t indices zeros) (test t indices given) (inside t indices zeros given all) v e
form_told types ask test inside (T.Tuple ts) indices zeros given all v e =
    made_told V.Tuple (together (each_zero (map ask ts) indices zeros)) _ (parts_told ask test inside ts indices zeros given all) v e
form_told types ask test inside (T.Named i arguments ts) indices zeros given all v e =
    table_told types ask test inside i (read_indices indices arguments) (each_zero (map ask ts) indices zeros)
    (each_zeroed (map test ts) indices given) (each_told ask test inside ts indices zeros given all) v e
form_told types ask test inside (T.Variable i) indices zeros given all v e = all i v e
form_told types ask test inside (T.Exists name c t) indices zeros given all v e = absurd cc

-- ---- types

within_told : (types : Types) (depth : ℕ) → Inside (zero_within types depth) (zeroed_within types depth)
within_told types zero t indices zeros given all v e = absurd cc
within_told types (suc depth) t indices zeros given all v e =
    form_told types (zero_within types depth) (zeroed_within types depth) (within_told types depth) (out-Typ t) indices zeros given all v e

none_told : AllTold [] []
none_told i v e = absurd cc

pub zeros_are_told : ZerosAreTold
zeros_are_told types t v e = within_told types deepest t [] [] [] none_told v e
