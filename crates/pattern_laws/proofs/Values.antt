-- What indices of one form say of a value that has them, and of what they widen to.
use mathlib.Core.List.{reverse_aux}
use Rattle.std.proofs.Common.{◌≡◌, ℕ, ℤ, pos, Bool, true, ◌&&◌, List, [], ◌∷◌, map, length, reverse, refl, sym, ap, ◌∙◌}
use Rattle.std.specs.List.{list_all}
use Rattle.std.specs.Ordering.{int_eq}
use Rattle.std.proofs.lemmas.Bool.{and_parts}
use Rattle.std.proofs.lemmas.Bool.Decides.{Decides-int_eq}
use Rattle.sail_types.specs.Belongs.{Reading as Closed, Readings as Closeds, reading, no_readings, more_readings, belongs}
use Rattle.sail_types.specs.Limits.{is_small, is_width, is_length}
use Rattle.sail_types.specs.Numbers.{Assignment, Positive, number}
use Rattle.sail_types.specs.declared.numbers.Con.{Con}
use Rattle.sail_types.specs.declared.numbers.Index.{Index}
use Rattle.sail_types.specs.declared.numbers.Num.{Num}
use Rattle.sail_types.specs.declared.table.Types.{Types}
use Rattle.sail_types.specs.declared.types.Typ.{Typ, Typ-F, out-Typ}
use Rattle.sail_types.specs.declared.types.Typ.TheOpen as T
use Rattle.sail_types.specs.declared.types.Typ.TheVariants as U
use Rattle.sail_types.specs.declared.types.Typ.TheViews.{out-roll-Typ}
use Rattle.sail_types.specs.declared.values.Value.{Value, Value-F, out-Value}
use Rattle.sail_types.specs.declared.values.Value.TheOpen as V
use Rattle.sail_types.specs.declared.values.Value.TheVariants as VV
use Rattle.sail_types.specs.declared.values.Value.TheViews.{out-roll-Value}
use Rattle.value_indices.specs.declared.indices.Indices.{Indices}
use Rattle.value_indices.specs.declared.indices.Indices.TheOpen as W
use Rattle.value_indices.specs.declared.indices.Indices.TheOpen.{Indices-F}
use Rattle.value_indices.specs.declared.indices.Indices.TheVariants as I
use Rattle.value_indices.specs.declared.indices.Reading.{Reading}
use Rattle.value_laws.specs.Belonging.{Integers, standing, closeds, type_variables, index_there, Meant, wides, meant, closed, has, form_holds}
use Rattle.value_laws.proofs.Basics.{no}
use Rattle.value_laws.proofs.Values.{has_form, meant_is}

-- ---- closed types that are the same have the same parts

abbrev readings_of : Closed → Closeds
readings_of (reading t mu rs) = rs

abbrev typ_of : Closed → Typ
typ_of (reading t mu rs) = t

abbrev list_of : Closeds → List Closed
list_of no_readings = []
list_of (more_readings r rs) = r ∷ list_of rs

list_back : (cs : List Closed) → list_of (closeds cs) ≡ cs
list_back [] = refl
list_back (c ∷ cs) = ap (λ ds. c ∷ ds) (list_back cs)

pub same_lists : (cs ds : List Closed) → closeds cs ≡ closeds ds → cs ≡ ds
same_lists cs ds e = sym (list_back cs) ∙ ap list_of e ∙ list_back ds

abbrev first_or : Closed → List Closed → Closed
first_or c [] = c
first_or c (d ∷ ds) = d

abbrev behind_first : List Closed → List Closed
behind_first [] = []
behind_first (d ∷ ds) = ds

abbrev args_in : Typ-F Typ → List Index
args_in (T.Named u is ts) = is
args_in x = []

args_back : (u : ℕ) (is : List Index) (ts : List Typ) → args_in (out-Typ (U.Named u is ts)) ≡ is
args_back u is ts = ap args_in (ap out-Typ (sym (U.rolls-Named u is ts)) ∙ out-roll-Typ (T.Named u is ts))

args_same : (u : ℕ) (is js : List Index) (ts us : List Typ) → U.Named u is ts ≡ U.Named u js us → is ≡ js
args_same u is js ts us e = sym (args_back u is ts) ∙ ap (λ t. args_in (out-Typ t)) e ∙ args_back u js us

-- ---- tests of all items

turned_all : {A : Type 0} (p : A → Bool) (xs ys : List A) → list_all p xs ≡ true → list_all p ys ≡ true → list_all p (reverse_aux xs ys) ≡ true
turned_all p [] ys h k = k
turned_all p (x ∷ xs) ys h k =
    let both = and_parts (p x) (list_all p xs) h in turned_all p xs (x ∷ ys) both.1 (ap (λ b. b && list_all p ys) both.0 ∙ k)

pub all_reversed : {A : Type 0} (p : A → Bool) (xs : List A) → list_all p xs ≡ true → list_all p (reverse xs) ≡ true
all_reversed p xs h = turned_all p xs [] h refl

module _ (types : Types) (past : Positive) (own : List Closed) (g : Integers) where
  abbrev there : Assignment
  there = standing past g

  abbrev holding : Indices-F Meant Closed → Value-F Value → Bool
  holding x v = form_holds types there own x v

  -- ---- values, by their indices

  pub never_had : (v : Value) → has types there own I.Never v ≡ true → ⊥
  never_had v h = no (sym (has_form types there own I.Never W.Never v I.rolls-Never) ∙ h)

  pub unit_had : (v : Value) → has types there own I.Unit v ≡ true → holding W.Unit (out-Value v) ≡ true
  unit_had v h = sym (has_form types there own I.Unit W.Unit v I.rolls-Unit) ∙ h

  pub truth_had : (c : Con) (v : Value) → has types there own (I.Truth c) v ≡ true → holding (W.Truth c) (out-Value v) ≡ true
  truth_had c v h = sym (has_form types there own (I.Truth c) (W.Truth c) v (I.rolls-Truth c)) ∙ h

  pub bit_had : (v : Value) → has types there own I.Bit v ≡ true → holding W.Bit (out-Value v) ≡ true
  bit_had v h = sym (has_form types there own I.Bit W.Bit v I.rolls-Bit) ∙ h

  pub bits_had : (t : Num) (v : Value) → has types there own (I.Bits t) v ≡ true → holding (W.Bits t) (out-Value v) ≡ true
  bits_had t v h = sym (has_form types there own (I.Bits t) (W.Bits t) v (I.rolls-Bits t)) ∙ h

  pub integer_had : (t : Num) (v : Value) → has types there own (I.Integer t) v ≡ true → holding (W.Integer t) (out-Value v) ≡ true
  integer_had t v h = sym (has_form types there own (I.Integer t) (W.Integer t) v (I.rolls-Integer t)) ∙ h

  pub string_had : (v : Value) → has types there own I.String v ≡ true → holding W.String (out-Value v) ≡ true
  string_had v h = sym (has_form types there own I.String W.String v I.rolls-String) ∙ h

  pub list_had : (r : Reading) (v : Value) → has types there own (I.List r) v ≡ true → holding (W.List (closed types there own r)) (out-Value v) ≡ true
  list_had r v h = sym (has_form types there own (I.List r) (W.List r) v (I.rolls-List r)) ∙ h

  pub list_has : (r : Reading) (vs : List Value) → list_all (λ v. belongs types v (closed types there own r)) vs ≡ true
      → has types there own (I.List r) (VV.List vs) ≡ true
  list_has r vs h =
      has_form types there own (I.List r) (W.List r) (VV.List vs) (I.rolls-List r)
      ∙ ap (holding (W.List (closed types there own r))) (ap out-Value (sym (VV.rolls-List vs)) ∙ out-roll-Value (V.List vs)) ∙ h

  pub vector_had : (t : Num) (r : Reading) (v : Value) → has types there own (I.Vector t r) v ≡ true
      → holding (W.Vector t (closed types there own r)) (out-Value v) ≡ true
  vector_had t r v h = sym (has_form types there own (I.Vector t r) (W.Vector t r) v (I.rolls-Vector t r)) ∙ h

  pub tuple_had : (is : List Indices) (v : Value) → has types there own (I.Tuple is) v ≡ true
      → holding (W.Tuple (map (meant types there own) is)) (out-Value v) ≡ true
  tuple_had is v h = sym (has_form types there own (I.Tuple is) (W.Tuple is) v (I.rolls-Tuple is)) ∙ h

  pub named_had : (u : ℕ) (is : List Index) (rs : List Reading) (v : Value) → has types there own (I.Named u is rs) v ≡ true
      → holding (W.Named u is (map (closed types there own) rs)) (out-Value v) ≡ true
  named_had u is rs v h = sym (has_form types there own (I.Named u is rs) (W.Named u is rs) v (I.rolls-Named u is rs)) ∙ h

  -- bits are as wide, vectors as long, and integers these
  pub wide_as : (t : Num) (bits : List Bool) → holding (W.Bits t) (V.Bits bits) ≡ true → number there t ≡ pos (length bits)
  wide_as t bits h =
      sym ((Decides-int_eq (pos (length bits)) (number there t)).0 (and_parts (int_eq (pos (length bits)) (number there t)) (is_width (length bits)) h).0)

  pub long_as : (t : Num) (c : Closed) (vs : List Value) → holding (W.Vector t c) (V.Vector vs) ≡ true → number there t ≡ pos (length vs)
  long_as t c vs h =
      let k = and_parts (int_eq (pos (length vs)) (number there t) && is_length (length vs)) (list_all (λ v. belongs types v c) vs) h in
      sym ((Decides-int_eq (pos (length vs)) (number there t)).0 (and_parts (int_eq (pos (length vs)) (number there t)) (is_length (length vs)) k.0).0)

  pub vector_items : (t : Num) (c : Closed) (vs : List Value) → holding (W.Vector t c) (V.Vector vs) ≡ true → list_all (λ v. belongs types v c) vs ≡ true
  vector_items t c vs h = (and_parts (int_eq (pos (length vs)) (number there t) && is_length (length vs)) (list_all (λ v. belongs types v c) vs) h).1

  pub integer_as : (t : Num) (z : ℤ) → holding (W.Integer t) (V.Integer z) ≡ true → number there t ≡ z
  integer_as t z h = sym ((Decides-int_eq z (number there t)).0 (and_parts (int_eq z (number there t)) (is_small z) h).0)

-- ---- what indices widen to at two places, and their parts there

module _ (types : Types) (past : Positive) (own : List Closed) (f g : Integers) where
  abbrev one : Assignment
  one = standing past f

  abbrev other : Assignment
  other = standing past g

  abbrev pub SameWide : Indices → Type 0
  SameWide i = (meant types one own i).wide ≡ (meant types other own i).wide

  abbrev SameClosed : Reading → Type 0
  SameClosed r = closed types one own r ≡ closed types other own r

  item_same : (r : Reading) → closeds (closed types one own r ∷ []) ≡ closeds (closed types other own r ∷ []) → SameClosed r
  item_same r e =
      ap (first_or (closed types one own r)) (same_lists (closed types one own r ∷ []) (closed types other own r ∷ []) e)

  pub list_wide : (r : Reading) → SameWide (I.List r) → SameClosed r
  list_wide r e =
      item_same r (sym (ap (λ m. readings_of m.wide) (meant_is types one own (I.List r) (W.List r) (I.rolls-List r)))
      ∙ ap readings_of e ∙ ap (λ m. readings_of m.wide) (meant_is types other own (I.List r) (W.List r) (I.rolls-List r)))

  pub vector_wide : (t : Num) (r : Reading) → SameWide (I.Vector t r) → SameClosed r
  vector_wide t r e =
      item_same r (sym (ap (λ m. readings_of m.wide) (meant_is types one own (I.Vector t r) (W.Vector t r) (I.rolls-Vector t r)))
      ∙ ap readings_of e ∙ ap (λ m. readings_of m.wide) (meant_is types other own (I.Vector t r) (W.Vector t r) (I.rolls-Vector t r)))

  abbrev pub AllWide : List Indices → Type 0
  AllWide [] = Unit {0}
  AllWide (i ∷ is) = SameWide i × AllWide is

  all_wide : (is : List Indices) → wides (map (meant types one own) is) ≡ wides (map (meant types other own) is) → AllWide is
  all_wide [] e = tt
  all_wide (i ∷ is) e = (ap (first_or (meant types one own i).wide) e, all_wide is (ap behind_first e))

  pub tuple_wide : (is : List Indices) → SameWide (I.Tuple is) → AllWide is
  tuple_wide is e =
      all_wide is (same_lists (wides (map (meant types one own) is)) (wides (map (meant types other own) is))
      (sym (ap (λ m. readings_of m.wide) (meant_is types one own (I.Tuple is) (W.Tuple is) (I.rolls-Tuple is)))
      ∙ ap readings_of e ∙ ap (λ m. readings_of m.wide) (meant_is types other own (I.Tuple is) (W.Tuple is) (I.rolls-Tuple is))))

  pub named_types : (u : ℕ) (is : List Index) (rs : List Reading) → SameWide (I.Named u is rs)
      → map (closed types one own) rs ≡ map (closed types other own) rs
  named_types u is rs e =
      same_lists (map (closed types one own) rs) (map (closed types other own) rs)
      (sym (ap (λ m. readings_of m.wide) (meant_is types one own (I.Named u is rs) (W.Named u is rs) (I.rolls-Named u is rs)))
      ∙ ap readings_of e ∙ ap (λ m. readings_of m.wide) (meant_is types other own (I.Named u is rs) (W.Named u is rs) (I.rolls-Named u is rs)))

  pub named_numbers : (u : ℕ) (is : List Index) (rs : List Reading) → SameWide (I.Named u is rs)
      → map (index_there one) is ≡ map (index_there other) is
  named_numbers u is rs e =
      args_same u (map (index_there one) is) (map (index_there other) is) (type_variables 0 (map (closed types one own) rs))
      (type_variables 0 (map (closed types other own) rs))
      (sym (ap (λ m. typ_of m.wide) (meant_is types one own (I.Named u is rs) (W.Named u is rs) (I.rolls-Named u is rs)))
      ∙ ap typ_of e ∙ ap (λ m. typ_of m.wide) (meant_is types other own (I.Named u is rs) (W.Named u is rs) (I.rolls-Named u is rs)))
