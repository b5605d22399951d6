-- The number that indices give to a variable of a type, and the one that a value of them gives.
use Rattle.std.proofs.Common.{◌≡◌, ℕ, pos, Bool, true, false, ◌&&◌, List, [], ◌∷◌, map, length, Option, Some, None, option_map}
use Rattle.std.proofs.Common.{refl, sym, ap, ◌∙◌}
use Rattle.std.specs.List.{list_all}
use Rattle.std.specs.Ordering.{int_eq}
use Rattle.std.proofs.lemmas.Bool.{and_parts}
use Rattle.std.proofs.lemmas.Bool.Decides.{Decides-int_eq}
use Rattle.sail_types.specs.Belongs.{Reading as Closed, belongs}
use Rattle.sail_types.specs.Limits.{is_small, is_width, is_length}
use Rattle.sail_types.specs.Numbers.{Assignment, number, true_in}
use Rattle.sail_types.specs.Places.{Given, an_int, a_bool, first, form_is, is_variable, only}
use Rattle.sail_types.specs.Places as Of
use Rattle.sail_types.specs.declared.numbers.Con.{Con, out-Con}
use Rattle.sail_types.specs.declared.numbers.Index.{Index}
use Rattle.sail_types.specs.declared.numbers.Index.TheVariants as N
use Rattle.sail_types.specs.declared.numbers.Num.{Num}
use Rattle.sail_types.specs.declared.table.Types.{Types}
use Rattle.sail_types.specs.declared.types.Typ.{Typ, Typ-F, roll-Typ}
use Rattle.sail_types.specs.declared.types.Typ.TheFolds.{fold-roll-Typ, map-Typ}
use Rattle.sail_types.specs.declared.types.Typ.TheOpen as T
use Rattle.sail_types.specs.declared.values.Value.{Value, Value-F}
use Rattle.sail_types.specs.declared.values.Value.TheOpen as V
use Rattle.value_indices.specs.declared.indices.Indices.{Indices}
use Rattle.value_indices.specs.declared.indices.Indices.TheOpen as W
use Rattle.value_fits.specs.Fitting as In
use Rattle.value_laws.specs.Belonging.{form_holds}
use Rattle.value_laws.proofs.Basics.{no}
use Rattle.value_laws.proofs.Opening.{truth_same}

-- what an index is there
abbrev pub given_there : Assignment → Index → Given
given_there mu (N.Number t) = an_int (number mu t)
given_there mu (N.Truth c) = a_bool (true_in mu c)

-- they give the same to each variable
abbrev pub PlacedAs : Assignment → Typ → Indices → Value → Type 0
PlacedAs mu t i v = (j : ℕ) → option_map (given_there mu) (In.placed t j i) ≡ Of.placed t j v

pub index_placed : (x : Typ-F Typ) (t : Typ) (j : ℕ) (i : Indices) → roll-Typ x ≡ t
    → In.placed t j i ≡ In.placed_form (map-Typ Typ In.Placed In.placed x) j i
index_placed x t j i e = ap (λ u. In.placed u j i) (sym e) ∙ ap (λ p. p j i) (fold-roll-Typ In.Placed In.placed_form x)

pub value_placed : (x : Typ-F Typ) (t : Typ) (j : ℕ) (v : Value) → roll-Typ x ≡ t
    → Of.placed t j v ≡ Of.placed_form (map-Typ Typ Of.Placed Of.placed x) j v
value_placed x t j v e = ap (λ u. Of.placed u j v) (sym e) ∙ ap (λ p. p j v) (fold-roll-Typ Of.Placed Of.placed_form x)

pub first_same : (mu : Assignment) (a b : Option Index) (c d : Option Given) → option_map (given_there mu) a ≡ c → option_map (given_there mu) b ≡ d
    → option_map (given_there mu) (first a b) ≡ first c d
first_same mu None b c d h k = k ∙ ap (λ o. first o d) h
first_same mu (Some x) b c d h k = ap (λ o. first o d) h

pub only_number : (mu : Assignment) (b : Bool) (x : Index) (given : Given) → given_there mu x ≡ given
    → option_map (given_there mu) (only b x) ≡ only b given
only_number mu true x given h = ap Some h
only_number mu false x given h = refl

-- parts of a tuple
abbrev pub EachPlaced : Assignment → List Typ → List Indices → List Value → Type 0
EachPlaced mu [] [] [] = Unit {0}
EachPlaced mu (t ∷ ts) (i ∷ is) (v ∷ vs) = PlacedAs mu t i v × EachPlaced mu ts is vs
EachPlaced mu ts is vs = ⊥

pub among_same : (mu : Assignment) (ts : List Typ) (is : List Indices) (vs : List Value) → EachPlaced mu ts is vs → (j : ℕ)
    → option_map (given_there mu) (In.among (map In.placed ts) j is) ≡ Of.among (map Of.placed ts) j vs
among_same mu [] [] [] h j = refl
among_same mu (t ∷ ts) (i ∷ is) (v ∷ vs) h j =
    first_same mu (In.placed t j i) (In.among (map In.placed ts) j is) (Of.placed t j v) (Of.among (map Of.placed ts) j vs) (h.0 j)
    (among_same mu ts is vs h.1 j)
among_same mu [] [] (v ∷ vs) h j = absurd h
among_same mu [] (i ∷ is) vs h j = absurd h
among_same mu (t ∷ ts) [] vs h j = absurd h
among_same mu (t ∷ ts) (i ∷ is) [] h j = absurd h

-- ---- numbers and truths where they stand

module _ (types : Types) (own : List Closed) (mu : Assignment) where
  pub bits_placed : (w t : Num) (j : ℕ) (v : Value-F Value) → form_holds types mu own (W.Bits w) v ≡ true
      → option_map (given_there mu) (only (is_variable j t) (N.Number w)) ≡ Of.form_place (T.Bits t) j v
  bits_placed w t j (V.Bits bits) h =
      only_number mu (is_variable j t) (N.Number w) (an_int (pos (length bits)))
      (ap an_int (sym ((Decides-int_eq (pos (length bits)) (number mu w)).0
      (and_parts (int_eq (pos (length bits)) (number mu w)) (is_width (length bits)) h).0)))
  bits_placed w t j v h = no h

  pub integer_placed : (n t : Num) (j : ℕ) (v : Value-F Value) → form_holds types mu own (W.Integer n) v ≡ true
      → option_map (given_there mu) (only (is_variable j t) (N.Number n)) ≡ Of.form_place (T.Int t) j v
  integer_placed n t j (V.Integer z) h =
      only_number mu (is_variable j t) (N.Number n) (an_int z)
      (ap an_int (sym ((Decides-int_eq z (number mu n)).0 (and_parts (int_eq z (number mu n)) (is_small z) h).0)))
  integer_placed n t j v h = no h

  pub truth_placed : (d c : Con) (j : ℕ) (v : Value-F Value) → form_holds types mu own (W.Truth d) v ≡ true
      → option_map (given_there mu) (only (form_is j (out-Con c)) (N.Truth d)) ≡ Of.form_place (T.Truth c) j v
  truth_placed d c j (V.Truth b) h = only_number mu (form_is j (out-Con c)) (N.Truth d) (a_bool b) (ap a_bool (truth_same b (true_in mu d) h))
  truth_placed d c j v h = no h

  pub vector_placed : (k l : Num) (r : Closed) (p : Of.Placed) (j : ℕ) (v : Value-F Value) → form_holds types mu own (W.Vector k r) v ≡ true
      → option_map (given_there mu) (only (is_variable j l) (N.Number k)) ≡ Of.form_place (T.Vector l p) j v
  vector_placed k l r p j (V.Vector vs) h =
      only_number mu (is_variable j l) (N.Number k) (an_int (pos (length vs)))
      (ap an_int (sym ((Decides-int_eq (pos (length vs)) (number mu k)).0
      (and_parts (int_eq (pos (length vs)) (number mu k)) (is_length (length vs))
      (and_parts (int_eq (pos (length vs)) (number mu k) && is_length (length vs)) (list_all (λ x. belongs types x r) vs) h).0).0)))
  vector_placed k l r p j v h = no h
