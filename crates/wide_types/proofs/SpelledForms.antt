-- Each form of a type spelled out.
use Rattle.std.proofs.Common.{◌≡◌, ◌∙◌, ap, sym, refl, ℕ, true, List, [], ◌∷◌, map, slice_get}
use Rattle.sail_types.specs.Readings.{read_indices}
use Rattle.sail_types.specs.Sums.{read}
use Rattle.sail_types.specs.declared.numbers.Con.{Con}
use Rattle.sail_types.specs.declared.numbers.Con.TheVariants as C
use Rattle.sail_types.specs.declared.numbers.Index.{Index}
use Rattle.sail_types.specs.declared.numbers.Num.{Num}
use Rattle.sail_types.specs.declared.types.Typ.{Typ, Typ-F, roll-Typ}
use Rattle.sail_types.specs.declared.types.Typ.TheFolds.{para-roll-Typ, map-Typ}
use Rattle.sail_types.specs.declared.types.Typ.TheOpen as T
use Rattle.sail_types.specs.declared.types.Typ.TheVariants as Y
use Rattle.value_indices.specs.Opening.{zero_num}
use Rattle.value_indices.specs.declared.indices.Indices.TheVariants as I
use Rattle.value_indices.specs.declared.indices.Reading.{Reading}
use Rattle.value_indices.specs.declared.indices.Reading.TheVariants as R
use Rattle.wide_types.specs.Widening.{bits_spelled, form_spelled, named_spelled, typ_spelled, variable_spelled, vector_spelled}

twice : {A B C : Type 0} (f : B → C) (g : A → B) (xs : List A) → map f (map g xs) ≡ map (λ x. f (g x)) xs
twice f g [] = refl
twice f g (x ∷ xs) = ap (λ ys. f (g x) ∷ ys) (twice f g xs)

itself : {A : Type 0} (xs : List A) → map (λ x. x) xs ≡ xs
itself [] = refl
itself (x ∷ xs) = ap (λ ys. x ∷ ys) (itself xs)

module _ (is : List Index) (rs : List Reading) where
  abbrev with_spelled : Typ → Typ × Reading
  with_spelled t = (t, typ_spelled is rs t)

  of_form : (t : Typ) (x : Typ-F Typ) → roll-Typ x ≡ t → typ_spelled is rs t ≡ form_spelled is rs (map-Typ Typ (Typ × Reading) with_spelled x)
  unfolding typ_spelled
  of_form t x e = ap (typ_spelled is rs) (sym e) ∙ para-roll-Typ Reading (form_spelled is rs) x

  pub spelled_unit : typ_spelled is rs Y.Unit ≡ R.Widened I.Unit
  spelled_unit = of_form _ T.Unit Y.rolls-Unit

  pub spelled_bool : typ_spelled is rs Y.Bool ≡ R.Widened (I.Truth (C.Truth true))
  spelled_bool = of_form _ T.Bool Y.rolls-Bool

  pub spelled_truth : (c : Con) → typ_spelled is rs (Y.Truth c) ≡ R.Widened (I.Truth (C.Truth true))
  spelled_truth c = of_form _ (T.Truth c) (Y.rolls-Truth c)

  pub spelled_bit : typ_spelled is rs Y.Bit ≡ R.Widened I.Bit
  spelled_bit = of_form _ T.Bit Y.rolls-Bit

  pub spelled_bits : (t : Num) → typ_spelled is rs (Y.Bits t) ≡ bits_spelled (R.Of (Y.Bits t) is rs) (read is t)
  spelled_bits t = of_form _ (T.Bits t) (Y.rolls-Bits t)

  pub spelled_int : (t : Num) → typ_spelled is rs (Y.Int t) ≡ R.Widened (I.Integer zero_num)
  spelled_int t = of_form _ (T.Int t) (Y.rolls-Int t)

  pub spelled_range : (t u : Num) → typ_spelled is rs (Y.Range t u) ≡ R.Widened (I.Integer zero_num)
  spelled_range t u = of_form _ (T.Range t u) (Y.rolls-Range t u)

  pub spelled_string : typ_spelled is rs Y.String ≡ R.Widened I.String
  spelled_string = of_form _ T.String Y.rolls-String

  pub spelled_list : (t : Typ) → typ_spelled is rs (Y.List t) ≡ R.Widened (I.List (typ_spelled is rs t))
  spelled_list t = of_form _ (T.List t) (Y.rolls-List t)

  pub spelled_vector : (n : Num) (t : Typ)
      → typ_spelled is rs (Y.Vector n t) ≡ vector_spelled (R.Of (Y.Vector n t) is rs) (typ_spelled is rs t) (read is n)
  spelled_vector n t = of_form _ (T.Vector n t) (Y.rolls-Vector n t)

  each_spelled : (ts : List Typ) → map (λ (part : Typ × Reading). part.1) (map with_spelled ts) ≡ map (typ_spelled is rs) ts
  each_spelled = twice (λ part. part.1) with_spelled

  each_back : (ts : List Typ) → map (λ (part : Typ × Reading). part.0) (map with_spelled ts) ≡ ts
  each_back ts = twice (λ part. part.0) with_spelled ts ∙ itself ts

  pub spelled_tuple : (ts : List Typ) → typ_spelled is rs (Y.Tuple ts) ≡ R.Parts (map (typ_spelled is rs) ts)
  spelled_tuple ts = of_form _ (T.Tuple ts) (Y.rolls-Tuple ts) ∙ ap R.Parts (each_spelled ts)

  pub spelled_named : (u : ℕ) (js : List Index) (ts : List Typ) → typ_spelled is rs (Y.Named u js ts)
      ≡ named_spelled (R.Of (Y.Named u js ts) is rs) u (map (typ_spelled is rs) ts) (read_indices is js)
  spelled_named u js ts =
      of_form _ (T.Named u js ts) (Y.rolls-Named u js ts)
      ∙ (λ i. named_spelled (R.Of (Y.Named u js (each_back ts i)) is rs) u (each_spelled ts i) (read_indices is js))

  pub spelled_variable : (i : ℕ) → typ_spelled is rs (Y.Variable i) ≡ variable_spelled i (slice_get rs i)
  spelled_variable i = of_form _ (T.Variable i) (Y.rolls-Variable i)

  pub spelled_exists : (name : List ℕ) (c : Con) (t : Typ) → typ_spelled is rs (Y.Exists name c t) ≡ R.Of (Y.Exists name c t) is rs
  spelled_exists name c t = of_form _ (T.Exists name c t) (Y.rolls-Exists name c t)

pub ruleset forms = (
  spelled_unit,
  spelled_bool,
  spelled_truth,
  spelled_bit,
  spelled_bits,
  spelled_int,
  spelled_range,
  spelled_string,
  spelled_list,
  spelled_vector,
  spelled_tuple,
  spelled_named,
  spelled_variable,
  spelled_exists,
)
