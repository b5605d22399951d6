-- The types at which values of a type are made hang on the variables alone that its sizes name.
use Rattle.std.proofs.Common.{◌≡◌, ◌∙◌, ap, sym, refl, subst, ℕ, Bool, true, List, [], ◌∷◌, map}
use Rattle.std.proofs.lemmas.Bool.{and_parts}
use Rattle.sail_types.specs.Places.{placed}
use Rattle.sail_types.specs.declared.numbers.Index.{Index}
use Rattle.sail_types.specs.declared.table.Types.{Types}
use Rattle.sail_types.specs.declared.types.Typ.{Typ, Typ-F, roll-Typ}
use Rattle.sail_types.specs.declared.types.Typ.TheFolds.{fold-roll-Typ, ind-Typ, map-Typ, para-Typ, para-roll-Typ}
use Rattle.sail_types.specs.declared.types.Typ.TheOpen as T
use Rattle.sail_types.specs.declared.values.Value.{Value}
use Rattle.value_indices.specs.declared.indices.Indices.{Indices}
use Rattle.value_indices.specs.declared.indices.Indices.TheFolds.{fold-roll-Reading, map-Reading}
use Rattle.value_indices.specs.declared.indices.Indices.TheOpen as W
use Rattle.value_indices.specs.declared.indices.Indices.TheOpen.{Reading-F}
use Rattle.value_indices.specs.declared.indices.Indices.TheViews.{out-roll-Reading, roll-out-Reading}
use Rattle.value_indices.specs.declared.indices.Reading.{Reading, out-Reading}
use Rattle.value_indices.specs.declared.indices.Reading.TheVariants as R
use Rattle.size_values.specs.declared.constants.Constant.{Constant}
use Rattle.size_values.specs.declared.sized.Sized.{Sized}
use Rattle.size_values.specs.Numbers.{index_under}
use Rattle.size_values.specs.Sized.{reading_sized, types_or_own}
use Rattle.size_laws.specs.Told.{Told, constant_given, form_reading_told, form_told, reading_told, typ_told}
use Rattle.exact_sizes.specs.Among.{SameAmong, ToldHang}
use Rattle.told_sizes.specs.Among.{Test, form_among, index_among, indices_among, reading_among, readings_among}
use Rattle.told_sizes.specs.Among.{typ_among, value_among}
use Rattle.told_sizes.specs.Exact.{all_of}
use Rattle.exact_sizes.proofs.Among.{SameAt, arguments_same, reading_hangs, same_under, typ_hangs}

module _ (types : Types) (ss : List Sized) where
  abbrev Hangs : Typ → Type 0
  Hangs t = (bs : List Bool) (cs ds : List Constant) → SameAt bs cs ds → typ_among types t bs ≡ true → (v : Value)
      → typ_told types ss t cs v ≡ typ_told types ss t ds v

  abbrev One : Type 0
  One = (t : Typ) × Hangs t

  abbrev form_of : Typ-F One → Typ-F Typ
  form_of y = map-Typ One Typ (λ p. p.0) y

  abbrev tests : Typ-F Typ → Typ-F Test
  tests x = map-Typ Typ Test (typ_among types) x

  abbrev told_in : Typ-F Typ → Typ-F (Typ × Told)
  told_in x = map-Typ Typ (Typ × Told) (λ t. (t, para-Typ Told (form_told types ss) t)) x

  form_hangs : (y : Typ-F One) (whole : Typ) (bs : List Bool) (cs ds : List Constant) → SameAt bs cs ds
      → form_among types (tests (form_of y)) bs ≡ true → typ_among types whole bs ≡ true → (v : Value)
      → form_told types ss (told_in (form_of y)) whole cs v ≡ form_told types ss (told_in (form_of y)) whole ds v
  form_hangs (T.Exists name c y) whole bs cs ds s h k v =
      let z = constant_given (placed y.0 0 v) in
      y.1 (true ∷ bs) (z ∷ cs) (z ∷ ds) (same_under bs z cs ds s) h v
  form_hangs y whole bs cs ds s h k v = typ_hangs types ss whole bs cs ds s k

  told_step : (y : Typ-F One) → Hangs (roll-Typ (form_of y))
  told_step y bs cs ds s h v =
      let t : Typ = roll-Typ (form_of y) in
      let told : (es : List Constant) → typ_told types ss t es v ≡ form_told types ss (told_in (form_of y)) t es v =
      λ es. ap (λ (f : Told). f t es v) (para-roll-Typ Told (form_told types ss) (form_of y)) in
      let tested : typ_among types t bs ≡ form_among types (tests (form_of y)) bs =
      ap (λ (f : Test). f bs) (fold-roll-Typ Test (form_among types) (form_of y)) in
      told cs ∙ form_hangs y t bs cs ds s (sym tested ∙ h) h v ∙ sym (told ds)

  pub typ_told_hangs : (t : Typ) (bs : List Bool) (cs ds : List Constant) → SameAt bs cs ds → typ_among types t bs ≡ true → (v : Value)
      → typ_told types ss t cs v ≡ typ_told types ss t ds v
  typ_told_hangs = ind-Typ Hangs (λ e y is. subst (λ d. Hangs (roll-Typ d)) is (told_step y))

-- ---- types of the walk

module _ (types : Types) (own : List Sized) (has : ℕ → Bool) (of to : ℕ → Constant) (same : SameAmong has of to) where
  abbrev tests_in : Reading-F Indices Reading → Reading-F Bool Bool
  tests_in x = map-Reading Indices Reading Bool Bool (value_among types has) (reading_among types has) x

  each_hangs : (rs : List Reading) → all_of (map (reading_among types has) rs) ≡ true
      → map (reading_sized types own of) rs ≡ map (reading_sized types own to) rs
  each_hangs [] h = refl
  each_hangs (r ∷ rs) h =
      let p = and_parts (reading_among types has r) (all_of (map (reading_among types has) rs)) h in
      let one = reading_hangs types own has of to same r p.0 in
      let rest = each_hangs rs p.1 in
      λ j. one j ∷ rest j

  form_same : (x : Reading-F Indices Reading) (r : Reading) → readings_among types has (tests_in x) ≡ true → reading_among types has r ≡ true → (v : Value)
      → form_reading_told types own of x r v ≡ form_reading_told types own to x r v
  form_same (W.Of t is rs) r h k v =
      let p = and_parts (all_of (map (reading_among types has) rs)) (typ_among types t (map (index_among has) is)) h in
      typ_told_hangs types (types_or_own (map (reading_sized types own of) rs) own) t (map (index_among has) is) (map (index_under of) is)
      (map (index_under to) is) (arguments_same types own has of to same is) p.1 v
      ∙ ap (λ (l : List Sized). typ_told types (types_or_own l own) t (map (index_under to) is) v) (each_hangs rs p.0)
  form_same x r h k v = reading_hangs types own has of to same r k

  pub reading_told_hangs : (r : Reading) → reading_among types has r ≡ true → (v : Value)
      → form_reading_told types own of (out-Reading r) r v ≡ form_reading_told types own to (out-Reading r) r v
  reading_told_hangs r h v =
      form_same (out-Reading r) r
      (sym (fold-roll-Reading Bool Bool (indices_among types has) (readings_among types has) (out-Reading r))
      ∙ ap (reading_among types has) (roll-out-Reading r) ∙ h) h v

-- the type of a value of a type is that of the type, where its variables stand for these
pub told_of : (types : Types) (own : List Sized) (of : ℕ → Constant) (t : Typ) (is : List Index) (rs : List Reading) (v : Value)
    → reading_told types own of (R.Of t is rs) v ≡ typ_told types (types_or_own (map (reading_sized types own of) rs) own) t (map (index_under of) is) v
told_of types own of t is rs v =
    ap (λ (x : Reading-F Indices Reading). form_reading_told types own of x (R.Of t is rs) v)
    (ap out-Reading (sym (R.rolls-Of t is rs)) ∙ out-roll-Reading (W.Of t is rs))

pub told_hang : ToldHang
told_hang types own has of to same r h v = reading_told_hangs types own has of to same r h v
