-- What an argument owes, by the form of its parameter's type.
use Rattle.std.proofs.Common.{◌≡◌, ◌∙◌, ap, sym, refl, ℕ, nat_eq, if◌then◌else◌, List, [], ◌∷◌, length, map}
use Rattle.std.proofs.lemmas.List.{length-map}
use Rattle.sail_types.specs.declared.numbers.Con.{Con}
use Rattle.sail_types.specs.declared.numbers.Index.{Index}
use Rattle.sail_types.specs.declared.numbers.Num.{Num}
use Rattle.sail_types.specs.declared.types.Typ.{Typ, Typ-F, out-Typ, roll-Typ}
use Rattle.sail_types.specs.declared.types.Typ.TheFolds.{para-roll-Typ, map-Typ}
use Rattle.sail_types.specs.declared.types.Typ.TheOpen as T
use Rattle.sail_types.specs.declared.types.Typ.TheVariants as V
use Rattle.sail_types.specs.declared.types.Typ.TheViews.{roll-out-Typ}
use Rattle.value_indices.specs.declared.indices.Indices.{Indices, out-Indices, roll-Indices}
use Rattle.value_indices.specs.declared.indices.Indices.TheOpen as W
use Rattle.value_indices.specs.declared.indices.Indices.TheVariants as I
use Rattle.value_indices.specs.declared.indices.Indices.TheViews.{out-roll-Indices, roll-out-Indices}
use Rattle.value_indices.specs.declared.indices.Reading.{Reading}
use Rattle.value_indices.specs.declared.indices.Reading.TheVariants as R
use Rattle.value_fits.specs.Fitting.{Fit}
use Rattle.call_arguments.specs.Placing.{PlaceFit, Placing, TypeFit, ValueForm, bits_placed, bool_placed, each_placing, form_placing, int_placed, items_placed}
use Rattle.call_arguments.specs.Placing.{parameter_fits, tuple_placed, type_fits, value_placing, vector_placed, whole_placed}

twice : {A B C : Type 0} (f : B → C) (g : A → B) (xs : List A) → map f (map g xs) ≡ map (λ x. f (g x)) xs
twice f g [] = refl
twice f g (x ∷ xs) = ap (λ ys. f (g x) ∷ ys) (twice f g xs)

-- a value that is no tuple
no_tuple : (fs : List PlaceFit) (known : List ℕ) (n : ℕ) (full : Placing) (value : ValueForm) → ((is : List Indices) → value ≡ W.Tuple is → ⊥)
    → full ≡ tuple_placed fs known n full value
no_tuple fs known n full (W.Tuple is) none = absurd (none is refl)
no_tuple fs known n full W.Never none = refl
no_tuple fs known n full W.Unit none = refl
no_tuple fs known n full (W.Truth c) none = refl
no_tuple fs known n full W.Bit none = refl
no_tuple fs known n full (W.Bits t) none = refl
no_tuple fs known n full (W.Integer t) none = refl
no_tuple fs known n full W.String none = refl
no_tuple fs known n full (W.List r) none = refl
no_tuple fs known n full (W.Vector l r) none = refl
no_tuple fs known n full (W.Named u is rs) none = refl
no_tuple fs known n full (W.Variable j) none = refl

module _ (fit : Fit) (js : List Index) (qs : List Reading) (known : List ℕ) (i : Indices) (n : ℕ) where
  abbrev own : Typ → Placing
  own t = parameter_fits fit js qs t known i n

  abbrev full : Typ → Placing
  full t = whole_placed fit js qs t known i n

  abbrev form : Typ → Typ-F Typ → Placing
  form t x = value_placing fit js qs (map-Typ Typ (Typ × TypeFit) (λ u. (u, type_fits fit js qs u)) x) known n (full t) (out-Indices i)

  of_form : (t : Typ) (x : Typ-F Typ) → roll-Typ x ≡ t → own t ≡ form t x
  of_form t x e =
      ap (λ u. type_fits fit js qs u t known i n) (sym e)
      ∙ ap (λ (f : TypeFit). f t known i n) (para-roll-Typ TypeFit (form_placing fit js qs) x)

  pub int_is : (t : Typ) (m : Num) → t ≡ V.Int m → int_placed js m known n (full t) (out-Indices i) ≡ own t
  int_is t m e = sym (of_form t (T.Int m) (V.rolls-Int m ∙ sym e))

  pub bits_is : (t : Typ) (m : Num) → t ≡ V.Bits m → bits_placed js m known n (full t) (out-Indices i) ≡ own t
  bits_is t m e = sym (of_form t (T.Bits m) (V.rolls-Bits m ∙ sym e))

  pub bool_is : (t : Typ) (c : Con) → t ≡ V.Truth c → bool_placed js c known n (full t) (out-Indices i) ≡ own t
  bool_is t c e = sym (of_form t (T.Truth c) (V.rolls-Truth c ∙ sym e))

  pub items_are : (t : Typ) (l : Num) (u v : Typ) → t ≡ V.Vector l u → v ≡ u
      → items_placed fit js l (R.Of v js qs) known n (full t) (out-Indices i) ≡ own t
  items_are t l u v e same =
      ap (λ x. items_placed fit js l (R.Of x js qs) known n (full t) (out-Indices i)) same
      ∙ sym (of_form t (T.Vector l u) (V.rolls-Vector l u ∙ sym e))

  tuple_is : (t : Typ) (ts : List Typ) → t ≡ V.Tuple ts
      → tuple_placed (map (parameter_fits fit js qs) ts) known n (full t) (out-Indices i) ≡ own t
  tuple_is t ts e =
      sym (of_form t (T.Tuple ts) (V.rolls-Tuple ts ∙ sym e)
      ∙ ap (λ (fs : List PlaceFit). tuple_placed fs known n (full t) (out-Indices i)) (twice (λ u. u.1 u.0) (λ u. (u, type_fits fit js qs u)) ts))

  -- the parts of a tuple
  pub parts_are : (t : Typ) (ts us : List Typ) (is ks : List Indices) → t ≡ V.Tuple ts → i ≡ I.Tuple is → us ≡ ts → ks ≡ is
      → (if nat_eq (length us) (length ks) then each_placing (map (parameter_fits fit js qs) us) ks known n else full t) ≡ own t
  parts_are t ts us is ks e tuple same values =
      (λ j. if nat_eq (length (same j)) (length (values j)) then each_placing (map (parameter_fits fit js qs) (same j)) (values j) known n else full t)
      ∙ ap (λ l. if nat_eq l (length is) then each_placing (map (parameter_fits fit js qs) ts) is known n else full t)
      (sym (length-map ts (parameter_fits fit js qs)))
      ∙ ap (λ (x : ValueForm). tuple_placed (map (parameter_fits fit js qs) ts) known n (full t) x)
      (sym (ap out-Indices (tuple ∙ sym (I.rolls-Tuple is)) ∙ out-roll-Indices (W.Tuple is)))
      ∙ tuple_is t ts e

  pub no_parts : (t : Typ) (ts : List Typ) → t ≡ V.Tuple ts → ((is : List Indices) → i ≡ I.Tuple is → ⊥) → full t ≡ own t
  no_parts t ts e none =
      no_tuple (map (parameter_fits fit js qs) ts) known n (full t) (out-Indices i)
      (λ is h. none is (sym (roll-out-Indices i) ∙ ap roll-Indices h ∙ I.rolls-Tuple is))
      ∙ tuple_is t ts e

  -- a type of another form
  of_other : (t : Typ) (x : Typ-F Typ) → roll-Typ x ≡ t → ((m : Num) → t ≡ V.Int m → ⊥) → ((m : Num) → t ≡ V.Bits m → ⊥)
      → ((c : Con) → t ≡ V.Truth c → ⊥) → ((l : Num) (u : Typ) → t ≡ V.Vector l u → ⊥) → ((ts : List Typ) → t ≡ V.Tuple ts → ⊥) → full t ≡ own t
  of_other t (T.Int m) e a b d g h = absurd (a m (sym e ∙ V.rolls-Int m))
  of_other t (T.Bits m) e a b d g h = absurd (b m (sym e ∙ V.rolls-Bits m))
  of_other t (T.Truth c) e a b d g h = absurd (d c (sym e ∙ V.rolls-Truth c))
  of_other t (T.Vector l u) e a b d g h = absurd (g l u (sym e ∙ V.rolls-Vector l u))
  of_other t (T.Tuple ts) e a b d g h = absurd (h ts (sym e ∙ V.rolls-Tuple ts))
  of_other t T.Unit e a b d g h = sym (of_form t T.Unit e)
  of_other t T.Bool e a b d g h = sym (of_form t T.Bool e)
  of_other t T.Bit e a b d g h = sym (of_form t T.Bit e)
  of_other t (T.Range m k) e a b d g h = sym (of_form t (T.Range m k) e)
  of_other t T.String e a b d g h = sym (of_form t T.String e)
  of_other t (T.List u) e a b d g h = sym (of_form t (T.List u) e)
  of_other t (T.Named u is ts) e a b d g h = sym (of_form t (T.Named u is ts) e)
  of_other t (T.Variable j) e a b d g h = sym (of_form t (T.Variable j) e)
  of_other t (T.Exists name c u) e a b d g h = sym (of_form t (T.Exists name c u) e)

  pub other_is : (t : Typ) → ((m : Num) → t ≡ V.Int m → ⊥) → ((m : Num) → t ≡ V.Bits m → ⊥) → ((c : Con) → t ≡ V.Truth c → ⊥)
      → ((l : Num) (u : Typ) → t ≡ V.Vector l u → ⊥) → ((ts : List Typ) → t ≡ V.Tuple ts → ⊥) → full t ≡ own t
  other_is t = of_other t (out-Typ t) (roll-out-Typ t)

  -- a vector, with its items of a type that is lent
  pub vector_is_placed : (l : Num) (q : Reading) (whole : Placing) (k : Num) (r own_type : Reading) → i ≡ I.Vector k r → own_type ≡ r
      → vector_placed fit js l q known k own_type n ≡ items_placed fit js l q known n whole (out-Indices i)
  vector_is_placed l q whole k r own_type is same =
      ap (λ x. vector_placed fit js l q known k x n) same
      ∙ ap (λ (x : ValueForm). items_placed fit js l q known n whole x)
      (sym (ap out-Indices (is ∙ sym (I.rolls-Vector k r)) ∙ out-roll-Indices (W.Vector k r)))
