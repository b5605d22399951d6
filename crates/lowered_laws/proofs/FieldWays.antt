-- A part that stands behind a field of a struct: the field's value is taken out, gets the part, and is put back.
use Rattle.std.proofs.Common.{◌≡◌, ◌∙◌, ℕ, zero, suc, Bool, true, false, List, [], ◌∷◌, length, map, ℤ, Option, Some, None, refl, sym, ap, subst}
use Rattle.std.proofs.Common.{arith, eqb-true, if◌then◌else◌}
use Rattle.std.specs.Prelude.{nat_eq, nat_lt, option_map, slice_get, slice_set}
use Rattle.std.proofs.lemmas.Bool.{and_parts}
use Rattle.sail_types.specs.Named.{fields}
use Rattle.sail_types.specs.declared.table.Field.{Field}
use Rattle.sail_types.specs.declared.values.Value.{Value, Value-F, out-Value}
use Rattle.sail_types.specs.declared.values.Value.TheOpen as E
use Rattle.sail_types.specs.declared.values.Value.TheVariants as V
use Rattle.size_values.specs.Sized.{sized_at}
use Rattle.size_values.specs.declared.sized.Sized.{Sized, Sized-F, out-Sized}
use Rattle.size_values.specs.declared.sized.Sized.TheOpen as Z
use Rattle.sail_core.specs.Values as C
use Rattle.sail_core.specs.declared.targets.Way.TheVariants as Y
use Rattle.checked_meaning.specs.Fits.{each_fits, fields_fit, fields_under, form_fits, has_sizes}
use Rattle.lowered_pieces.specs.Fields.{field_types_of, types_under}
use Rattle.lowered_pieces.specs.Writes.{way_typ}
use Rattle.lowered_laws.specs.Simulation.{AtWork}
use Rattle.lowered_laws.proofs.Follows.{no}
use Rattle.lowered_laws.proofs.Had.{fits_form, fits_in}
use Rattle.lowered_laws.proofs.Works.{none_is, out_as, some_same}

pub set_here : {A : Type 0} (ws : List A) (i : ℕ) (v : A) → nat_lt i (length ws) ≡ true → slice_get (slice_set ws i v) i ≡ Some v
set_here [] i v h = absurd (none_below i h)
  where
    none_below : (i : ℕ) → nat_lt i 0 ≡ true → ⊥
    none_below i h = grind (arith, h)
set_here (w ∷ ws) zero v h = refl
set_here (w ∷ ws) (suc i) v h = set_here ws i v (less i (length ws) h)
  where
    less : (i n : ℕ) → nat_lt (suc i) (suc n) ≡ true → nat_lt i n ≡ true
    less i n h = grind (arith, h)

-- what was put in is there
pub put_take : (struct i : ℕ) (old : Value-F Value) (part v : Value) → C.with_field struct i old part ≡ Some v
    → C.field struct i (out-Value v) ≡ Some part
put_take struct i (E.Struct s vs) part v e = by (nat_eq s struct) refl (nat_lt i (length vs)) refl e
  where
    by : (b : Bool) → nat_eq s struct ≡ b → (c : Bool) → nat_lt i (length vs) ≡ c
        → (if b then option_map (V.Struct s) (if c then Some (slice_set vs i part) else None) else None) ≡ Some v
        → C.field struct i (out-Value v) ≡ Some part
    by true p true q f =
        ap (λ w. C.field struct i (out-Value w)) (sym (some_same (V.Struct s (slice_set vs i part)) v f))
        ∙ ap (C.field struct i) (out_as (V.Struct s (slice_set vs i part)) (E.Struct s (slice_set vs i part)) (V.rolls-Struct s (slice_set vs i part)))
        ∙ ap (λ b. if b then slice_get (slice_set vs i part) i else None) p ∙ set_here vs i part q
    by true p false q f = none_is v f
    by false p c q f = none_is v f
put_take struct i old part v e = none_is v e

module _ (g : AtWork) where
  each_at : (vs : List Value) (ts : List Sized) (i : ℕ) (part : Value) → each_fits (map (has_sizes g.table) vs) ts ≡ true → slice_get vs i ≡ Some part
      → has_sizes g.table part (sized_at ts i) ≡ true
  each_at [] ts i part h e = none_is part e
  each_at (v ∷ vs) [] i part h e = no h
  each_at (v ∷ vs) (t ∷ ts) zero part h e =
      ap (λ w. has_sizes g.table w t) (sym (some_same v part e)) ∙ (and_parts (has_sizes g.table v t) (each_fits (map (has_sizes g.table) vs) ts) h).0
  each_at (v ∷ vs) (t ∷ ts) (suc i) part h e =
      each_at vs ts i part (and_parts (has_sizes g.table v t) (each_fits (map (has_sizes g.table) vs) ts) h).1 e

  under_at : (zs : List (Option ℤ)) (ss : List Sized) (vs : List Value) (o : Option (List Field)) (i : ℕ) (part : Value)
      → fields_fit g.table zs ss (map (has_sizes g.table) vs) o ≡ true → slice_get vs i ≡ Some part
      → has_sizes g.table part (sized_at (types_under g.table zs ss o) i) ≡ true
  under_at zs ss vs None i part h e = no h
  under_at zs ss vs (Some fs) i part h e = each_at vs (fields_under g.table zs ss fs) i part h e

  form_at : (struct i : ℕ) (x : Value-F Value) (z : Sized-F Sized) (part : Value) → form_fits g.table (fits_in g x) z ≡ true
      → C.field struct i x ≡ Some part → has_sizes g.table part (sized_at (field_types_of g.table z) i) ≡ true
  form_at struct i (E.Struct s vs) (Z.Named u zs ss) part h e =
      let both = and_parts (nat_eq s u) (fields_fit g.table zs ss (map (has_sizes g.table) vs) (fields g.table s)) h in
      let same : s ≡ u = eqb-true s u both.0 in
      by (nat_eq s struct)
      (subst (λ k. fields_fit g.table zs ss (map (has_sizes g.table) vs) (fields g.table k) ≡ true) same both.1) e
    where
      by : (b : Bool) → fields_fit g.table zs ss (map (has_sizes g.table) vs) (fields g.table u) ≡ true → (if b then slice_get vs i else None) ≡ Some part
          → has_sizes g.table part (sized_at (types_under g.table zs ss (fields g.table u)) i) ≡ true
      by true f q = under_at zs ss vs (fields g.table u) i part f q
      by false f q = none_is part q
  form_at struct i (E.Struct s vs) z part h e = no h
  form_at struct i x z part h e = none_is part e

  -- the value of a field has the field's type
  pub field_had : (struct i : ℕ) (v part : Value) (t : Sized) → has_sizes g.table v t ≡ true → C.field struct i (out-Value v) ≡ Some part
      → has_sizes g.table part (way_typ g.table (Y.Field struct i) t) ≡ true
  field_had struct i v part t h e = form_at struct i (out-Value v) (out-Sized t) part (sym (fits_form g v t) ∙ h) e
