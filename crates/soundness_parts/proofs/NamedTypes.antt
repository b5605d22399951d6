-- A value of a named type: what its variables stand for is one and the same, and so are the types of its struct's fields, which name no others.
use Rattle.std.proofs.Common.{◌≡◌, ℕ, zero, suc, pos, true, List, [], ◌∷◌, length, map, slice_get, Some, sym, ap, ◌∙◌}
use Rattle.std.proofs.lemmas.List.{length-map}
use Rattle.sail_types.proofs.SumNumbers.{some_same}
use Rattle.sail_types.specs.Belongs.{Reading as Closed, assigned, belongs, reading}
use Rattle.sail_types.specs.Named.{field_types}
use Rattle.sail_types.specs.Numbers.{Assignment}
use Rattle.sail_types.specs.declared.numbers.Index.{Index}
use Rattle.sail_types.specs.declared.table.Field.{Field}
use Rattle.sail_types.specs.declared.types.Typ.{Typ}
use Rattle.sail_types.specs.declared.values.Value.{Value}
use Rattle.value_indices.specs.declared.indices.Indices.TheOpen as W
use Rattle.value_indices.specs.declared.indices.Indices.TheVariants as I
use Rattle.value_indices.specs.declared.indices.Reading.{Reading}
use Rattle.value_indices.specs.declared.indices.Reading.TheVariants as R
use Rattle.value_laws.specs.Belonging.{Integers, closed, closeds, index_there, meant, named_of, standing, type_variables, types_or_own}
use Rattle.value_laws.specs.Known.{Agree, Point}
use Rattle.value_laws.proofs.Arguments.{assigned_there}
use Rattle.value_laws.proofs.Steps.{same}
use Rattle.value_laws.proofs.Values.{closed_is, meant_is}
use Rattle.row_laws.proofs.Steady.{args_same, readings_of, same_lists, typ_of}
use Rattle.way_laws.specs.Laws.{Closes}
use Rattle.soundness_steps.specs.Works.{Setting, Work}
use Rattle.soundness_steps.specs.Values.{Has, IsSteady}
use Rattle.soundness_values.proofs.Narrowed.{AllNarrow}
use Rattle.soundness_values.specs.Narrow.{is_narrow}
use Rattle.soundness_values.proofs.Narrow.{own_behind}

module _ (set : Setting) (work : Work) (is : List Index) (rs : List Reading) where
  abbrev mu_at : Integers → Assignment
  mu_at g = standing set.past g

  abbrev closed_at : Integers → List Closed
  closed_at g = map (closed set.around.types (standing set.past g) work.types) rs

  -- a type that a definition writes, under what they stand for
  pub type_is : (t : Typ) (g : Integers) → closed set.around.types (standing set.past g) work.types (R.Of t is rs)
      ≡ reading t (assigned (standing set.past g) is) (closeds (types_or_own (closed_at g) work.types))
  type_is t g = closed_is set.around.types (standing set.past g) work.types (R.Of t is rs) (W.Of t is rs) (R.rolls-Of t is rs)

  pub type_closes : (t : Typ) → is_narrow (length rs) t ≡ true → (g : Integers) → Closes set.around.types (standing set.past g) work.types t is rs
  type_closes t narrow g v =
      let there : Integers → List Closed = closed_at in
      ap (belongs set.around.types v) (type_is t g)
      ∙ own_behind set.around.types (there g) work.types t (assigned (standing set.past g) is) v
      (ap (λ k. is_narrow k t) (length-map rs (closed set.around.types (standing set.past g) work.types)) ∙ narrow)

  module _ {n : ℕ} (f : Point n) (u : ℕ) (v : Value) (h : Has set work f (I.Named u is rs) v) where
    wide_at : (g : Integers) → (meant set.around.types (standing set.past g) work.types (I.Named u is rs)).wide ≡ named_of (mu_at g) u is (closed_at g)
    wide_at g =
        ap (λ m. m.wide) (meant_is set.around.types (standing set.past g) work.types (I.Named u is rs) (W.Named u is rs) (I.rolls-Named u is rs))

    same_wide : (g : Integers) → Agree f g → named_of (mu_at g) u is (closed_at g) ≡ named_of (mu_at f.integers) u is (closed_at f.integers)
    same_wide g a = sym (wide_at g) ∙ ap (λ m. m.wide) (h.steady g a ∙ sym (h.steady f.integers (same f))) ∙ wide_at f.integers

    pub indices_stay : (g : Integers) → Agree f g → map (index_there (mu_at g)) is ≡ map (index_there (mu_at f.integers)) is
    indices_stay g a =
        args_same u (map (index_there (mu_at g)) is) (map (index_there (mu_at f.integers)) is) (type_variables 0 (closed_at g))
        (type_variables 0 (closed_at f.integers)) (ap typ_of (same_wide g a))

    pub numbers_stay : (g : Integers) → Agree f g → assigned (standing set.past g) is ≡ assigned (standing set.past f.integers) is
    numbers_stay g a =
        sym (assigned_there set.past g is) ∙ ap (assigned (standing set.past (λ i. pos 0))) (indices_stay g a)
        ∙ assigned_there set.past f.integers is

    pub types_stay : (g : Integers) → Agree f g → closed_at g ≡ closed_at f.integers
    types_stay g a = same_lists (closed_at g) (closed_at f.integers) (ap readings_of (same_wide g a))

    pub type_steady : (t : Typ) → IsSteady set work f (R.Of t is rs)
    type_steady t g a =
        type_is t g ∙ (λ j. reading t (numbers_stay g a j) (closeds (types_or_own (types_stay g a j) work.types))) ∙ sym (type_is t f.integers)

-- the type of a field of a table whose types are narrow
pub field_narrow : (count : ℕ) (fs : List Field) (k : ℕ) (g : Field) → AllNarrow count (field_types fs) → slice_get fs k ≡ Some g
    → is_narrow count g.typ ≡ true
field_narrow count [] k g h e = absurd (cc)
field_narrow count (d ∷ fs) zero g h e = ap (λ (x : Field). is_narrow count x.typ) (sym (some_same d g e)) ∙ h.0
field_narrow count (d ∷ fs) (suc k) g h e = field_narrow count fs k g h.1 e
