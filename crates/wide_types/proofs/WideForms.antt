-- The widened type of each form of a type.
use Rattle.std.proofs.Common.{◌≡◌, ◌∙◌, ap, sym, refl, ℕ, List, [], ◌∷◌, map}
use Rattle.sail_types.specs.declared.numbers.Con.{Con}
use Rattle.sail_types.specs.declared.numbers.Index.{Index}
use Rattle.sail_types.specs.declared.numbers.Num.{Num}
use Rattle.sail_types.specs.declared.types.Typ.{Typ, Typ-F, roll-Typ}
use Rattle.sail_types.specs.declared.types.Typ.TheFolds.{para-roll-Typ, map-Typ}
use Rattle.sail_types.specs.declared.types.Typ.TheOpen as T
use Rattle.sail_types.specs.declared.types.Typ.TheVariants as Y
use Rattle.value_indices.specs.Opening.{largest_num, least_num}
use Rattle.wide_types.specs.Widening.{wide_form, wide_typ}

twice : {A B C : Type 0} (f : B → C) (g : A → B) (xs : List A) → map f (map g xs) ≡ map (λ x. f (g x)) xs
twice f g [] = refl
twice f g (x ∷ xs) = ap (λ ys. f (g x) ∷ ys) (twice f g xs)

abbrev with_wide : Typ → Typ × Typ
with_wide t = (t, wide_typ t)

of_form : (t : Typ) (x : Typ-F Typ) → roll-Typ x ≡ t → wide_typ t ≡ wide_form (map-Typ Typ (Typ × Typ) with_wide x)
unfolding wide_typ
of_form t x e = ap wide_typ (sym e) ∙ para-roll-Typ Typ wide_form x

pub wide_unit : wide_typ Y.Unit ≡ Y.Unit
wide_unit = of_form _ T.Unit Y.rolls-Unit ∙ Y.rolls-Unit

pub wide_bool : wide_typ Y.Bool ≡ Y.Bool
wide_bool = of_form _ T.Bool Y.rolls-Bool ∙ Y.rolls-Bool

pub wide_truth : (c : Con) → wide_typ (Y.Truth c) ≡ Y.Bool
wide_truth c = of_form _ (T.Truth c) (Y.rolls-Truth c)

pub wide_bit : wide_typ Y.Bit ≡ Y.Bit
wide_bit = of_form _ T.Bit Y.rolls-Bit ∙ Y.rolls-Bit

pub wide_bits : (t : Num) → wide_typ (Y.Bits t) ≡ Y.Bits t
wide_bits t = of_form _ (T.Bits t) (Y.rolls-Bits t) ∙ Y.rolls-Bits t

pub wide_int : (t : Num) → wide_typ (Y.Int t) ≡ Y.Range least_num largest_num
wide_int t = of_form _ (T.Int t) (Y.rolls-Int t)

pub wide_range : (t u : Num) → wide_typ (Y.Range t u) ≡ Y.Range least_num largest_num
wide_range t u = of_form _ (T.Range t u) (Y.rolls-Range t u)

pub wide_string : wide_typ Y.String ≡ Y.String
wide_string = of_form _ T.String Y.rolls-String ∙ Y.rolls-String

pub wide_list : (t : Typ) → wide_typ (Y.List t) ≡ Y.List (wide_typ t)
wide_list t = of_form _ (T.List t) (Y.rolls-List t) ∙ Y.rolls-List (wide_typ t)

pub wide_vector : (n : Num) (t : Typ) → wide_typ (Y.Vector n t) ≡ Y.Vector n (wide_typ t)
wide_vector n t = of_form _ (T.Vector n t) (Y.rolls-Vector n t) ∙ Y.rolls-Vector n (wide_typ t)

each_wide : (ts : List Typ) → map (λ (part : Typ × Typ). part.1) (map with_wide ts) ≡ map wide_typ ts
each_wide = twice (λ part. part.1) with_wide

pub wide_tuple : (ts : List Typ) → wide_typ (Y.Tuple ts) ≡ Y.Tuple (map wide_typ ts)
wide_tuple ts =
    of_form _ (T.Tuple ts) (Y.rolls-Tuple ts) ∙ ap (λ us. roll-Typ (T.Tuple us)) (each_wide ts) ∙ Y.rolls-Tuple (map wide_typ ts)

pub wide_named : (i : ℕ) (is : List Index) (ts : List Typ) → wide_typ (Y.Named i is ts) ≡ Y.Named i is (map wide_typ ts)
wide_named i is ts =
    of_form _ (T.Named i is ts) (Y.rolls-Named i is ts)
    ∙ ap (λ us. roll-Typ (T.Named i is us)) (each_wide ts) ∙ Y.rolls-Named i is (map wide_typ ts)

pub wide_variable : (i : ℕ) → wide_typ (Y.Variable i) ≡ Y.Variable i
wide_variable i = of_form _ (T.Variable i) (Y.rolls-Variable i) ∙ Y.rolls-Variable i

pub wide_exists : (name : List ℕ) (c : Con) (t : Typ) → wide_typ (Y.Exists name c t) ≡ Y.Exists name c t
wide_exists name c t = of_form _ (T.Exists name c t) (Y.rolls-Exists name c t)

pub ruleset forms = (
  wide_unit,
  wide_bool,
  wide_truth,
  wide_bit,
  wide_bits,
  wide_int,
  wide_range,
  wide_string,
  wide_list,
  wide_vector,
  wide_tuple,
  wide_named,
  wide_variable,
  wide_exists,
)
