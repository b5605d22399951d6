-- The type of a part, all of whose sizes are constants, is that of its indices, or of its type.
use Rattle.std.proofs.Common.{◌≡◌, ℕ, List, map, slice_get, Some, option_map, sym, ap, ◌∙◌}
use Rattle.std.proofs.lemmas.Option.{slice_get-map}
use Rattle.sail_types.specs.Named.{payload as payload_type}
use Rattle.sail_types.specs.declared.numbers.Index.{Index}
use Rattle.sail_types.specs.declared.numbers.Num.{Num}
use Rattle.sail_types.specs.declared.table.Types.{Types}
use Rattle.sail_types.specs.declared.types.Typ.{Typ}
use Rattle.sail_core.specs.Making.{component, payload, one_item}
use Rattle.value_indices.specs.declared.indices.Indices.{Indices}
use Rattle.value_indices.specs.declared.indices.Indices.TheOpen as W
use Rattle.value_indices.specs.declared.indices.Indices.TheVariants as I
use Rattle.value_indices.specs.declared.indices.Reading.{Reading}
use Rattle.value_indices.specs.declared.indices.Reading.TheVariants as R
use Rattle.size_values.specs.declared.constants.Constant.{Constant}
use Rattle.size_values.specs.declared.sized.Sized.{Sized, Sized-F, out-Sized, roll-Sized}
use Rattle.size_values.specs.declared.sized.Sized.TheOpen as Z
use Rattle.size_values.specs.declared.sized.Sized.TheVariants as S
use Rattle.size_values.specs.declared.sized.Sized.TheViews.{out-roll-Sized}
use Rattle.size_values.specs.Numbers.{constant_under}
use Rattle.size_values.specs.Sized.{integer_of, named_numbers, or_never, reading_sized, typ_sized, value_sized}
use Rattle.checked_meaning.specs.Items.{component_typ, constant_of, item_typ, part_typ, payload_of, payload_typ}
use Rattle.size_laws.specs.Laws.{PartsKept, PartsKeepSizes}
use Rattle.size_laws.specs.Settled.{constants, stood}
use Rattle.size_laws.proofs.Forms.{of_is, reading_is, value_is}

-- the form of a sized type that is made of one
pub out_is : (s : Sized) (z : Sized-F Sized) → roll-Sized z ≡ s → out-Sized s ≡ z
out_is s z e = ap out-Sized (sym e) ∙ out-roll-Sized z

module _ (types : Types) (own : List Sized) (of : ℕ → Constant) where
  abbrev sized : Indices → Sized
  sized = value_sized types own of

  abbrev typed : Reading → Sized
  typed = reading_sized types own of

  -- a component, an item and a payload of such a type
  pub component_of : (ss : List Sized) (k : ℕ) (s : Sized) → slice_get ss k ≡ Some s → part_typ types (component k) (S.Tuple ss) ≡ s
  component_of ss k s e = ap (component_typ k) (out_is (S.Tuple ss) (Z.Tuple ss) (S.rolls-Tuple ss)) ∙ ap or_never e

  item_of_list : (s : Sized) → part_typ types one_item (S.List s) ≡ s
  item_of_list s = ap item_typ (out_is (S.List s) (Z.List s) (S.rolls-List s))

  at_place : {A : Type 0} (typing : A → Sized) (xs : List A) (k : ℕ) (x : A) → slice_get xs k ≡ Some x → slice_get (map typing xs) k ≡ Some (typing x)
  at_place typing xs k x e = slice_get-map typing xs k ∙ ap (option_map typing) e

  of_tuple : (is : List Indices) (k : ℕ) (i : Indices) → slice_get is k ≡ Some i → part_typ types (component k) (sized (I.Tuple is)) ≡ sized i
  of_tuple is k i e =
      ap (part_typ types (component k)) (value_is types own of (I.Tuple is) (W.Tuple is) (I.rolls-Tuple is))
      ∙ component_of (map sized is) k (sized i) (at_place sized is k i e)

  of_parts : (rs : List Reading) (k : ℕ) (r : Reading) → slice_get rs k ≡ Some r → part_typ types (component k) (typed (R.Parts rs)) ≡ typed r
  of_parts rs k r e =
      ap (part_typ types (component k)) (reading_is types own of (R.Parts rs) (W.Parts rs) (R.rolls-Parts rs))
      ∙ component_of (map typed rs) k (typed r) (at_place typed rs k r e)

  of_list : (r : Reading) → part_typ types one_item (sized (I.List r)) ≡ typed r
  of_list r = ap (part_typ types one_item) (value_is types own of (I.List r) (W.List r) (I.rolls-List r)) ∙ item_of_list (typed r)

  of_vector : (t : Num) (r : Reading) → part_typ types one_item (sized (I.Vector t r)) ≡ typed r
  of_vector t r =
      let z = integer_of (constant_under of t) in
      ap (part_typ types one_item) (value_is types own of (I.Vector t r) (W.Vector t r) (I.rolls-Vector t r))
      ∙ ap item_typ (out_is (S.Vector z (typed r)) (Z.Vector z (typed r)) (S.rolls-Vector z (typed r)))

  of_union : (u c : ℕ) (is : List Index) (rs : List Reading) (t : Typ) → payload_type types u c ≡ Some t
      → typ_sized types (map typed rs) t (map constant_of (named_numbers types u (constants types own of is)))
      ≡ typ_sized types (stood types own of rs) t (constants types own of is)
      → part_typ types (payload u c) (sized (I.Named u is rs)) ≡ typed (R.Of t is rs)
  of_union u c is rs t e same =
      let zs = named_numbers types u (constants types own of is) in
      let ss : List Sized = map typed rs in
      ap (part_typ types (payload u c)) (value_is types own of (I.Named u is rs) (W.Named u is rs) (I.rolls-Named u is rs))
      ∙ ap (payload_typ types u c) (out_is (S.Named u zs ss) (Z.Named u zs ss) (S.rolls-Named u zs ss))
      ∙ ap (payload_of types zs ss) e
      ∙ same
      ∙ sym (of_is types own of t is rs)

  kept : PartsKept types own of
  kept = record { of_tuple = of_tuple; of_parts = of_parts; of_list = of_list; of_vector = of_vector; of_union = of_union }

pub parts_keep_sizes : PartsKeepSizes
parts_keep_sizes types own of = kept types own of
