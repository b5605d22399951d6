-- What has to be true for a value to be of a type counts variables on: none from before is taken again.
use Rattle.std.proofs.Common.{ℕ, zero, suc, ◌≤◌, nat_eq, Bool, true, false, List, [], ◌∷◌, Option, Some, None, if◌then◌else◌, slice_get}
use Rattle.sail_types.specs.Named.{fields}
use Rattle.sail_types.specs.Readings.{read_indices}
use Rattle.sail_types.specs.declared.numbers.Con.{Con}
use Rattle.sail_types.specs.declared.numbers.Index.{Index}
use Rattle.sail_types.specs.declared.numbers.Index.TheVariants as N
use Rattle.sail_types.specs.declared.table.Types.{Types}
use Rattle.sail_types.specs.declared.types.Typ.{Typ, Typ-F, out-Typ}
use Rattle.sail_types.specs.declared.types.Typ.TheOpen as T
use Rattle.value_indices.specs.declared.indices.Indices.{Indices, out-Indices}
use Rattle.value_indices.specs.declared.indices.Indices.TheOpen as W
use Rattle.value_indices.specs.declared.indices.Indices.TheOpen.{Indices-F, Reading-F}
use Rattle.value_indices.specs.declared.indices.Reading.{Reading, out-Reading}
use Rattle.value_indices.specs.declared.indices.Reading.TheVariants as R
use Rattle.value_indices.specs.Opening.{opened}
use Rattle.value_fits.specs.declared.fitted.Fitted.{Fitted}
use Rattle.value_fits.specs.Fitting.{Fit, joined, also, says, never, ended, each_pair, item_fits, argument_fits, arguments_fit, indices_fit, field_fits}
use Rattle.value_fits.specs.Fitting.{fields_fit, types_of_fields, named_fits, same_named, bound_fits, same_variable, own_variable, variable_fits}
use Rattle.value_fits.specs.Fitting.{each_under, typed_fits, form_fits, named_form, placed, typ_fits, widened_part, widened_fits, tuple_fits, reading_fits}
use Rattle.value_fits.specs.Fitting.{value_fits, fits_within}
use Rattle.fitting_laws.proofs.Counting.{le_self, le_on, opened_grows}

-- from here on
abbrev pub Counts : (ℕ → Fitted) → Type 0
Counts made = (n : ℕ) → n ≤ (made n).next

abbrev pub FitCounts : Fit → Type 0
FitCounts fit = (i : Indices) (r : Reading) → Counts (fit i r)

also_counts : (a : Fitted) (more : ℕ → Fitted) (n : ℕ) → n ≤ a.next → Counts more → n ≤ (also a more).next
unfolding joined
also_counts a more n h k = le_on h (k a.next)

ended_counts : (b : Bool) → Counts (ended b)
ended_counts true n = le_self n
ended_counts false n = le_self n

pairs_count : {A B : Type 0} (f : A → B → ℕ → Fitted) → ((x : A) (y : B) → Counts (f x y)) → (xs : List A) (ys : List B) → Counts (each_pair f xs ys)
pairs_count f h [] [] n = le_self n
pairs_count f h [] (y ∷ ys) n = le_self n
pairs_count f h (x ∷ xs) [] n = le_self n
pairs_count f h (x ∷ xs) (y ∷ ys) n = also_counts (f x y n) (each_pair f xs ys) n (h x y n) (pairs_count f h xs ys)

same_counts : (i j : ℕ) → Counts (same_variable i j)
same_counts i j n = by (nat_eq i j)
  where
    by : (b : Bool) → n ≤ (if b then says [] n else never n).next
    by true = le_self n
    by false = le_self n

module _ (types : Types) (fit : Fit) (counts : FitCounts fit) where
  pub item_counts : (value wanted : Reading) → Counts (item_fits fit value wanted)
  item_counts value wanted n = le_on ((opened_grows value).onward [] n) (counts (opened value [] n).value wanted (opened value [] n).next)

  field_counts : (value wanted : Reading) → Counts (field_fits fit value wanted)
  unfolding joined
  field_counts value wanted n = le_on ((opened_grows value).onward [] n) (counts (opened value [] n).value wanted (opened value [] n).next)

  argument_counts : (value wanted : Reading) → Counts (argument_fits fit value wanted)
  argument_counts value wanted n =
      also_counts (item_fits fit value wanted n) (item_fits fit wanted value) n (item_counts value wanted n) (item_counts wanted value)

  fields_count : (ts : List Typ) (is : List Index) (rs : List Reading) (js : List Index) (qs : List Reading) → Counts (fields_fit fit ts is rs js qs)
  fields_count [] is rs js qs n = le_self n
  fields_count (t ∷ ts) is rs js qs n =
      also_counts (field_fits fit (R.Of t is rs) (R.Of t js qs) n) (fields_fit fit ts is rs js qs) n
      (field_counts (R.Of t is rs) (R.Of t js qs) n) (fields_count ts is rs js qs)

  named_counts : (u v : ℕ) (is : List Index) (rs : List Reading) (js : List Index) (qs : List Reading) → Counts (same_named types fit u v is rs js qs)
  named_counts u v is rs js qs n = by (nat_eq u v)
    where
      by : (b : Bool) → n ≤ (if b then named_fits types fit u is rs js qs n else never n).next
      by true = also_counts (fields_fit fit (types_of_fields (fields types u)) is rs js qs n)
          (λ k. also (says (indices_fit is js) k) (arguments_fit fit rs qs)) n
          (fields_count (types_of_fields (fields types u)) is rs js qs n)
          (λ k. also_counts (says (indices_fit is js) k) (arguments_fit fit rs qs) k (le_self k) (pairs_count (argument_fits fit) argument_counts rs qs))
      by false = le_self n

  bound_counts : (i : Indices) (c : Con) (t : Typ) (is : List Index) (rs : List Reading) (o : Option Index) → Counts (bound_fits fit i c t is rs o)
  unfolding joined
  bound_counts i c t is rs None n = le_self n
  bound_counts i c t is rs (Some (N.Truth d)) n = le_self n
  bound_counts i c t is rs (Some (N.Number m)) n = counts i (R.Of t (N.Number m ∷ is) rs) n

  own_counts : (k : ℕ) (y : Indices-F Indices Reading) → Counts (own_variable k y)
  own_counts k (W.Variable j) n = same_counts k j n
  own_counts k y n = le_self n

  variable_counts : (i : Indices) (k : ℕ) (o : Option Reading) → Counts (variable_fits fit i k o)
  variable_counts i k None n = own_counts k (out-Indices i) n
  variable_counts i k (Some r) n = counts i r n

  form_counts : (x : Typ-F Typ) (is : List Index) (rs : List Reading) (y : Indices-F Indices Reading) → Counts (form_fits types fit x is rs y)
  form_counts T.Unit is rs W.Unit n = le_self n
  form_counts T.Bool is rs (W.Truth d) n = le_self n
  form_counts (T.Truth c) is rs (W.Truth d) n = le_self n
  form_counts T.Bit is rs W.Bit n = le_self n
  form_counts (T.Bits t) is rs (W.Bits w) n = le_self n
  form_counts (T.Int t) is rs (W.Integer i) n = le_self n
  form_counts (T.Range t u) is rs (W.Integer i) n = le_self n
  form_counts T.String is rs W.String n = le_self n
  form_counts (T.List t) is rs (W.List r) n = item_counts r (R.Of t is rs) n
  form_counts (T.Vector l t) is rs (W.Vector k r) n =
      also_counts (says _ n) (item_fits fit r (R.Of t is rs)) n (le_self n) (item_counts r (R.Of t is rs))
  form_counts (T.Tuple ts) is rs (W.Tuple parts) n = pairs_count (typed_fits fit is rs) (λ i t. counts i (R.Of t is rs)) parts ts n
  form_counts x is rs y n = le_self n

  named_form_counts : (u : ℕ) (o : Option (List Index)) (qs : List Reading) (y : Indices-F Indices Reading) → Counts (named_form types fit u o qs y)
  named_form_counts u (Some js) qs (W.Named v is rs) n = named_counts u v is rs js qs n
  named_form_counts u o qs y n = le_self n

  typ_counts : (x : Typ-F Typ) (is : List Index) (rs : List Reading) (i : Indices) → Counts (typ_fits types fit x is rs i)
  typ_counts (T.Variable k) is rs i n = variable_counts i k (slice_get rs k) n
  typ_counts (T.Exists name c t) is rs i n = bound_counts i c t is rs (placed t 0 i) n
  typ_counts (T.Named u args ts) is rs i n = named_form_counts u (read_indices is args) (each_under is rs ts) (out-Indices i) n
  typ_counts x is rs i n = form_counts x is rs (out-Indices i) n

  widened_counts : (x y : Indices-F Indices Reading) → Counts (widened_fits types fit x y)
  widened_counts W.Unit W.Unit n = le_self n
  widened_counts (W.Truth c) (W.Truth d) n = le_self n
  widened_counts W.Bit W.Bit n = le_self n
  widened_counts (W.Bits t) (W.Bits w) n = le_self n
  widened_counts (W.Integer t) (W.Integer i) n = le_self n
  widened_counts W.String W.String n = le_self n
  widened_counts (W.List q) (W.List r) n = item_counts r q n
  widened_counts (W.Vector l q) (W.Vector k r) n = also_counts (says _ n) (item_fits fit r q) n (le_self n) (item_counts r q)
  widened_counts (W.Tuple js) (W.Tuple is) n = pairs_count (widened_part fit) (λ i j. counts i (R.Widened j)) is js n
  widened_counts (W.Named u js qs) (W.Named v is rs) n = named_counts u v is rs js qs n
  widened_counts (W.Variable j) (W.Variable i) n = same_counts i j n
  widened_counts x y n = le_self n

  parts_count : (rs : List Reading) (y : Indices-F Indices Reading) → Counts (tuple_fits fit rs y)
  parts_count rs (W.Tuple is) n = pairs_count fit counts is rs n
  parts_count rs y n = le_self n

  reading_counts : (i : Indices) (x : Reading-F Indices Reading) → Counts (reading_fits types fit i x)
  reading_counts i (W.Of t is rs) n = typ_counts (out-Typ t) is rs i n
  reading_counts i (W.Widened j) n = widened_counts (out-Indices j) (out-Indices i) n
  reading_counts i (W.Parts rs) n = parts_count rs (out-Indices i) n
  reading_counts i W.Hole n = le_self n

  value_counts : (y : Indices-F Indices Reading) (i : Indices) (r : Reading) → Counts (value_fits types fit y i r)
  value_counts W.Never i r n = le_self n
  value_counts y i r n = reading_counts i (out-Reading r) n

pub fits_count : (types : Types) (depth : ℕ) → FitCounts (fits_within types depth)
fits_count types zero i r n = le_self n
fits_count types (suc depth) i r n = value_counts types (fits_within types depth) (fits_count types depth) (out-Indices i) i r n
