-- A part that stands behind an index: the item is taken out, gets the part, and is put back.
use Rattle.std.proofs.Common.{◌≡◌, ◌∙◌, ℕ, pos, Bool, true, false, List, length, map, ℤ, Option, Some, None, refl, sym, ap, subst}
use Rattle.std.proofs.Common.{if◌then◌else◌}
use Rattle.std.specs.Prelude.{nat_lt, option_map, slice_get, slice_set}
use Rattle.sail_types.specs.declared.values.Value.{Value, Value-F, out-Value, roll-Value}
use Rattle.sail_types.specs.declared.values.Value.TheViews.{roll-out-Value}
use Rattle.sail_types.specs.declared.values.Value.TheOpen as E
use Rattle.sail_types.specs.declared.values.Value.TheVariants as V
use Rattle.size_values.specs.declared.sized.Sized.{Sized, Sized-F, out-Sized}
use Rattle.size_values.specs.declared.sized.Sized.TheOpen as Z
use Rattle.size_values.specs.declared.sized.Sized.TheVariants as S
use Rattle.size_values.specs.declared.sized.Sized.TheViews.{out-roll-Sized}
use Rattle.sail_core.specs.Values as C
use Rattle.sail_core.specs.declared.targets.Way.TheVariants as Y
use Rattle.checked_meaning.specs.Fits.{form_fits, has_sizes}
use Rattle.lowered_pieces.specs.Writes.{item_of, way_typ}
use Rattle.lowered_laws.specs.Simulation.{AtWork}
use Rattle.lowered_laws.proofs.FieldWays.{set_here}
use Rattle.lowered_laws.proofs.Follows.{no}
use Rattle.lowered_laws.proofs.Had.{fits_as_form, fits_form, fits_in}
use Rattle.lowered_laws.proofs.Takes.{vector_had}
use Rattle.lowered_laws.proofs.Works.{none_is, out_as, some_same}

-- what was put in is there
pub item_put : (i : ℤ) (old : Value-F Value) (part v : Value) → C.with_item i old part ≡ Some v → C.item i (out-Value v) ≡ Some part
item_put (pos i) (E.Bits bs) part v e = bit (out-Value part) refl e
  where
    bit : (o : Value-F Value) → out-Value part ≡ o → C.with_bit bs i o ≡ Some v → C.item (pos i) (out-Value v) ≡ Some part
    bit (E.Bit b) p f = by (nat_lt i (length bs)) refl f
      where
        by : (c : Bool) → nat_lt i (length bs) ≡ c → (if c then Some (V.Bits (slice_set bs i b)) else None) ≡ Some v
            → C.item (pos i) (out-Value v) ≡ Some part
        by true q h =
            let bits : List Bool = slice_set bs i b in
            ap (λ w. C.item (pos i) (out-Value w)) (sym (some_same (V.Bits bits) v h))
            ∙ ap (C.item (pos i)) (out_as (V.Bits bits) (E.Bits bits) (V.rolls-Bits bits)) ∙ ap (option_map V.Bit) (set_here bs i b q)
            ∙ ap Some (sym (V.rolls-Bit b) ∙ ap roll-Value (sym p) ∙ roll-out-Value part)
        by false q h = none_is v h
    bit o p f = none_is v f
item_put (pos i) (E.Vector vs) part v e = by (nat_lt i (length vs)) refl e
  where
    by : (c : Bool) → nat_lt i (length vs) ≡ c → option_map V.Vector (if c then Some (slice_set vs i part) else None) ≡ Some v
        → C.item (pos i) (out-Value v) ≡ Some part
    by true q h =
        let items : List Value = slice_set vs i part in
        ap (λ w. C.item (pos i) (out-Value w)) (sym (some_same (V.Vector items) v h))
        ∙ ap (C.item (pos i)) (out_as (V.Vector items) (E.Vector items) (V.rolls-Vector items)) ∙ set_here vs i part q
    by false q h = none_is v h
item_put i old part v e = none_is v e

module _ (g : AtWork) where
  bit_had : (b : Bool) → has_sizes g.table (V.Bit b) S.Bit ≡ true
  bit_had b =
      fits_as_form g (V.Bit b) (E.Bit b) S.Bit (V.rolls-Bit b)
      ∙ ap (form_fits g.table (E.Bit b)) (ap out-Sized (sym S.rolls-Bit) ∙ out-roll-Sized Z.Bit)

  of_bits : (o : Option Bool) (part : Value) → option_map V.Bit o ≡ Some part → has_sizes g.table part S.Bit ≡ true
  of_bits None part e = none_is part e
  of_bits (Some b) part e = subst (λ w. has_sizes g.table w S.Bit ≡ true) (some_same (V.Bit b) part e) (bit_had b)

  of_vector : (vs : List Value) (z : Sized-F Sized) → form_fits g.table (E.Vector (map (has_sizes g.table) vs)) z ≡ true → (i : ℕ) (part : Value)
      → slice_get vs i ≡ Some part → has_sizes g.table part (item_of z) ≡ true
  of_vector vs (Z.Vector n s) h i part e = vector_had g vs (Z.Vector n s) h i part e
  of_vector vs z h i part e = no h

  form_at : (i : ℤ) (x : Value-F Value) (z : Sized-F Sized) (part : Value) → form_fits g.table (fits_in g x) z ≡ true → C.item i x ≡ Some part
      → has_sizes g.table part (item_of z) ≡ true
  form_at (pos i) (E.Bits bs) (Z.Bits n) part h e = of_bits (slice_get bs i) part e
  form_at (pos i) (E.Bits bs) z part h e = no h
  form_at (pos i) (E.Vector vs) z part h e = of_vector vs z h i part e
  form_at i x z part h e = none_is part e

  -- an item has the type of items
  pub item_had : (i : ℤ) (v part : Value) (t : Sized) → has_sizes g.table v t ≡ true → C.item i (out-Value v) ≡ Some part
      → has_sizes g.table part (way_typ g.table Y.Item t) ≡ true
  item_had i v part t h e = form_at i (out-Value v) (out-Sized t) part (sym (fits_form g v t) ∙ h) e
