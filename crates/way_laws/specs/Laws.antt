-- Where what has to be true of a way into a value is true, the value has such a part, which belongs to the type that the walk says, and another
-- one of that type can stand in its place (Sail language manual, "Structs", "Vectors", "Bitvectors").
use Rattle.std.specs.Prelude.{◌≡◌, ◌+ℤ◌, ◌-ℤ◌, ℕ, pos, true, List, map, Some}
use Rattle.sail_types.specs.Belongs.{Reading as Closed, assigned, belongs, reading}
use Rattle.sail_types.specs.Numbers.{Assignment, number, true_in}
use Rattle.sail_types.specs.declared.numbers.Index.{Index}
use Rattle.sail_types.specs.declared.numbers.Num.{Num}
use Rattle.sail_types.specs.declared.table.Types.{Types}
use Rattle.sail_types.specs.declared.types.Typ.{Typ}
use Rattle.sail_types.specs.declared.values.Value.{Value}
use Rattle.sail_core.specs.Values.{Into, field_way, item_way, slice_way}
use Rattle.value_indices.specs.Steps.{Conditions, conjunction}
use Rattle.value_indices.specs.declared.indices.Indices.{Indices, out-Indices}
use Rattle.value_indices.specs.declared.indices.Indices.TheOpen as W
use Rattle.value_indices.specs.declared.indices.Indices.TheVariants as I
use Rattle.value_indices.specs.declared.indices.Reading.{Reading}
use Rattle.value_indices.specs.declared.indices.Reading.TheVariants as R
use Rattle.pattern_leaves.specs.Settings.{Around}
use Rattle.expression_forms.specs.Ways.{into_field, into_item, into_slice}
use Rattle.expression_forms.specs.declared.ways.Reached.{Reached}
use Rattle.value_laws.specs.Belonging.{closed, closeds, has, is_of}

-- what has to be true is so
abbrev pub AreTrue : Assignment → Conditions → Type 0
AreTrue mu cs = true_in mu (conjunction cs) ≡ true

module _ (types : Types) (mu : Assignment) (own : List Closed) where
  -- the value with another part, which has the same indices
  pub record Replaced (i : Indices) (old new : Value) (way : Into) : Type 0 where
    pub whole : Value
    pub is_there : way.put_in old new ≡ Some whole
    pub is_so : has types mu own i whole ≡ true

  -- under these, a type of which the Type variables stand for `qs` names no others
  abbrev pub Closes : Typ → List Index → List Reading → Type 0
  Closes t is qs =
      (v : Value) → is_of types mu own (R.Of t is qs) v ≡ belongs types v (reading t (assigned mu is) (closeds (map (closed types mu own) qs)))

  -- a part, of this type
  pub record HasPart (i : Indices) (v : Value) (r : Reading) (way : Into) : Type 0 where
    pub part : Value
    pub is_there : way.take_out v ≡ Some part
    pub is_typed : is_of types mu own r part ≡ true
    pub replaced : (new : Value) → is_of types mu own r new ≡ true → Replaced i v new way

-- by an index, into bits and into a vector
abbrev pub ItemsAreThere : Type 0
ItemsAreThere = (types : Types) (mu : Assignment) (own : List Closed) (i : Indices) (v : Value) (t : Num) (x : Reached)
    → has types mu own i v ≡ true → into_item t (out-Indices i) ≡ Some x → AreTrue mu x.conditions
    → HasPart types mu own i v x.typ (item_way (number mu t))

-- by a slice of bits, which is as wide as is said
abbrev pub SlicesAreThere : Type 0
SlicesAreThere = (types : Types) (mu : Assignment) (own : List Closed) (i : Indices) (v : Value) (hi lo width : Num) (x : Reached)
    → number mu width ≡ (number mu hi -ℤ number mu lo) +ℤ pos 1 → has types mu own i v ≡ true → into_slice hi lo width (out-Indices i) ≡ Some x
    → AreTrue mu x.conditions → HasPart types mu own i v x.typ (slice_way (number mu hi) (number mu lo))

-- by a field of a struct, the type of which names the struct's Type variables alone
abbrev pub FieldsAreThere : Type 0
FieldsAreThere = (around : Around) (mu : Assignment) (own : List Closed) (u k : ℕ) (is : List Index) (qs : List Reading) (v : Value) (x : Reached)
    → has around.types mu own (I.Named u is qs) v ≡ true → into_field around u k (W.Named u is qs) ≡ Some x
    → ((t : Typ) → x.typ ≡ R.Of t is qs → Closes around.types mu own t is qs)
    → HasPart around.types mu own (I.Named u is qs) v x.typ (field_way u k)
