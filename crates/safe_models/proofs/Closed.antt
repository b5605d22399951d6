-- A type that uses each variable as what it stands for names none, where none stands for anything.
use Rattle.std.proofs.Common.{◌≡◌, ℕ, zero, suc, List, [], ◌∷◌, map, ap, sym, ◌∙◌, refl, subst, Bool, true, false, arith}
use Rattle.std.specs.Prelude.{nat_lt, slice_get}
use Rattle.std.specs.List.{list_all}
use Rattle.std.proofs.lemmas.Bool.{and_parts}
use Rattle.std.proofs.lemmas.Bool.Decides.{nat_tests}
use Rattle.sail_types.specs.declared.numbers.Atom.TheFolds.{fold-Num}
use Rattle.sail_types.specs.declared.numbers.Atom.TheOpen as N
use Rattle.sail_types.specs.declared.numbers.Atom.TheOpen.{Atom-F}
use Rattle.sail_types.specs.declared.numbers.Con.{Con, Con-F, roll-Con}
use Rattle.sail_types.specs.declared.numbers.Con.TheFolds.{fold-roll-Con, ind-Con, map-Con}
use Rattle.sail_types.specs.declared.numbers.Con.TheOpen as C
use Rattle.sail_types.specs.declared.numbers.Index.{Index}
use Rattle.sail_types.specs.declared.numbers.Index.TheVariants as I
use Rattle.sail_types.specs.declared.numbers.Num.{Num}
use Rattle.sail_types.specs.declared.table.Types.{Types}
use Rattle.sail_types.specs.declared.types.Typ.{Typ, Typ-F, fold-Typ, roll-Typ}
use Rattle.sail_types.specs.declared.types.Typ.TheFolds.{fold-roll-Typ, ind-Typ, map-Typ}
use Rattle.sail_types.specs.declared.types.Typ.TheOpen as T
use Rattle.sail_core.specs.Numbers.{Givens, given_bool, given_int}
use Rattle.wide_types.specs.Widening.{atom_below, form_below, is_below, is_con_below}
use Rattle.call_arguments.specs.Callees.{index_under, is_closed, is_numberless, is_numberless_under, is_typeless, numberless_form, typeless_form}
use Rattle.shape_joins.proofs.Order.{no, two}
use Rattle.shape_meanings.specs.Whole.{all_of}
use Rattle.shape_progress.specs.Conditions.{atom_given, con_given, given_in, is_there, truth_given}
use Rattle.known_texts.proofs.WellFormed.{formed}
use Rattle.text_progress.proofs.KindedTypes.{Kinded, form_kinded, index_kinded, indices_kinded, inside, none_below, same_test, typ_kinded}
use Rattle.soundness_values.specs.Narrow.{form_narrow, is_narrow}
use Rattle.safe_models.proofs.Narrow.{narrow_so}

-- so many binders, each of a number
abbrev ints : ℕ → Givens
ints zero = []
ints (suc d) = inside (ints d)

-- ---- numbers

first_below : (d : ℕ) → nat_lt 0 (suc d) ≡ true
first_below d = grind (arith, nat_tests)

is_int : (d i : ℕ) → is_there (given_int (slice_get (ints d) i)) ≡ nat_lt i d
is_int zero zero = sym (none_below zero)
is_int zero (suc i) = sym (none_below (suc i))
is_int (suc d) zero = sym (first_below d)
is_int (suc d) (suc i) = is_int d i ∙ sym (same_test i d)

no_bool : (d i : ℕ) → is_there (given_bool (slice_get (ints d) i)) ≡ false
no_bool zero zero = refl
no_bool zero (suc i) = refl
no_bool (suc d) zero = refl
no_bool (suc d) (suc i) = no_bool d i

atom_same : (d : ℕ) (x : Atom-F Bool Bool Bool) → atom_given (ints d) x ≡ atom_below d x
atom_same d (N.Variable i) = is_int d i
atom_same d (N.Power t) = refl

number_same : (d : ℕ) (n : Num) → given_in (ints d) n ≡ is_below d n
number_same d n = λ i. fold-Num Bool Bool Bool (λ x. atom_same d x i) (λ m. list_all (λ b. b) m.terms) (λ t. t.atom) n

below_so : (d : ℕ) (n : Num) → given_in (ints d) n ≡ true → is_below d n ≡ true
below_so d n h = sym (number_same d n) ∙ h

-- ---- conditions

module _ (d : ℕ) where
  abbrev ConSo : Con → Type 0
  ConSo c = truth_given (ints d) c ≡ true → is_con_below d c ≡ true

  abbrev SuchC : Type 0
  SuchC = (c : Con) × ConSo c

  abbrev cons : List SuchC → List Con
  cons ys = map (λ (p : SuchC). p.0) ys

  abbrev con_form : Con-F SuchC → Con-F Con
  con_form y = map-Con SuchC Con (λ p. p.0) y

  each_con : (ys : List SuchC) → list_all (λ b. b) (map (truth_given (ints d)) (cons ys)) ≡ true
      → list_all (λ b. b) (map (is_con_below d) (cons ys)) ≡ true
  each_con [] h = refl
  each_con (y ∷ ys) h =
      let own = and_parts (truth_given (ints d) y.0) (list_all (λ b. b) (map (truth_given (ints d)) (cons ys))) h in
      two (is_con_below d y.0) (list_all (λ b. b) (map (is_con_below d) (cons ys))) (y.1 own.0) (each_con ys own.1)

  con_opened : (y : Con-F SuchC) → con_given (ints d) (map-Con Con Bool (truth_given (ints d)) (con_form y)) ≡ true
      → form_below d (map-Con Con Bool (is_con_below d) (con_form y)) ≡ true
  con_opened (C.Truth b) h = refl
  con_opened (C.Holds i) h = no (sym (no_bool d i) ∙ h)
  con_opened (C.Compare how t u) h =
      let own = and_parts (given_in (ints d) t) (given_in (ints d) u) h in
      two (is_below d t) (is_below d u) (below_so d t own.0) (below_so d u own.1)
  con_opened (C.OneOf t zs) h = below_so d t h
  con_opened (C.Not y) h = y.1 h
  con_opened (C.All ys) h = each_con ys h
  con_opened (C.Any ys) h = each_con ys h

  con_rolled : (y : Con-F SuchC) → ConSo (roll-Con (con_form y))
  con_rolled y h =
      fold-roll-Con Bool (form_below d) (con_form y) ∙ con_opened y (sym (fold-roll-Con Bool (con_given (ints d)) (con_form y)) ∙ h)

  con_so : (c : Con) → ConSo c
  con_so = ind-Con ConSo (λ e y is. subst (λ x. ConSo (roll-Con x)) is (con_rolled y))

  index_so : (i : Index) → index_kinded (ints d) i ≡ true → index_under d i ≡ true
  index_so (I.Number n) h = below_so d n h
  index_so (I.Truth c) h = con_so c h

  indices_so : (is : List Index) → indices_kinded (ints d) is ≡ true → list_all (index_under d) is ≡ true
  indices_so [] h = refl
  indices_so (i ∷ is) h =
      let own = and_parts (index_kinded (ints d) i) (indices_kinded (ints d) is) h in
      two (index_under d i) (list_all (index_under d) is) (index_so i own.0) (indices_so is own.1)

-- ---- types

abbrev NumberlessSo : Typ → Type 0
NumberlessSo t = (d : ℕ) → typ_kinded (ints d) t ≡ true → is_numberless_under t d ≡ true

abbrev Such : Type 0
Such = (t : Typ) × NumberlessSo t

abbrev bare : List Such → List Typ
bare ys = map (λ (p : Such). p.0) ys

abbrev bare_form : Typ-F Such → Typ-F Typ
bare_form y = map-Typ Such Typ (λ p. p.0) y

abbrev kinds : ℕ → List Such → Bool
kinds d ys = all_of (map (λ f. f (ints d)) (map (λ t. fold-Typ Kinded form_kinded t) (bare ys)))

abbrev numberless : ℕ → List Such → Bool
numberless d ys = list_all (λ f. f d) (map (λ t. fold-Typ (ℕ → Bool) numberless_form t) (bare ys))

each_so : (ys : List Such) (d : ℕ) → kinds d ys ≡ true → numberless d ys ≡ true
each_so [] d h = refl
each_so (y ∷ ys) d h =
    let own = and_parts (typ_kinded (ints d) y.0) (kinds d ys) h in
    two (is_numberless_under y.0 d) (numberless d ys) (y.1 d own.0) (each_so ys d own.1)

form_so : (y : Typ-F Such) (d : ℕ) → form_kinded (map-Typ Typ Kinded (λ t. fold-Typ Kinded form_kinded t) (bare_form y)) (ints d) ≡ true
    → numberless_form (map-Typ Typ (ℕ → Bool) (λ t. fold-Typ (ℕ → Bool) numberless_form t) (bare_form y)) d ≡ true
form_so (T.Truth c) d h = con_so d c h
form_so (T.Bits n) d h = below_so d n h
form_so (T.Int n) d h = below_so d n h
form_so (T.Range low high) d h =
    let own = and_parts (given_in (ints d) low) (given_in (ints d) high) h in
    two (is_below d low) (is_below d high) (below_so d low own.0) (below_so d high own.1)
form_so (T.List y) d h = y.1 d h
form_so (T.Vector n y) d h =
    let own = and_parts (given_in (ints d) n) (typ_kinded (ints d) y.0) h in
    two (is_below d n) (is_numberless_under y.0 d) (below_so d n own.0) (y.1 d own.1)
form_so (T.Tuple ys) d h = each_so ys d h
form_so (T.Named i is ys) d h =
    let own = and_parts (indices_kinded (ints d) is) (kinds d ys) h in
    two (list_all (index_under d) is) (numberless d ys) (indices_so d is own.0) (each_so ys d own.1)
form_so (T.Exists name c y) d h =
    let own = and_parts (truth_given (ints (suc d)) c) (typ_kinded (ints (suc d)) y.0) h in
    two (is_con_below (suc d) c) (is_numberless_under y.0 (suc d)) (con_so (suc d) c own.0) (y.1 (suc d) own.1)
form_so y d h = refl

rolled_so : (y : Typ-F Such) → NumberlessSo (roll-Typ (bare_form y))
rolled_so y d h =
    ap (λ (f : ℕ → Bool). f d) (fold-roll-Typ (ℕ → Bool) numberless_form (bare_form y))
    ∙ form_so y d (sym (ap (λ (f : Kinded). f (ints d)) (fold-roll-Typ Kinded form_kinded (bare_form y))) ∙ h)

numberless_so : (t : Typ) → NumberlessSo t
numberless_so = ind-Typ NumberlessSo (λ e y is. subst (λ x. NumberlessSo (roll-Typ x)) is (rolled_so y))

-- ---- no Type variable is one of none

typeless_same : (y : Typ-F Bool) → form_narrow 0 y ≡ typeless_form y
typeless_same (T.Variable i) = none_below i
typeless_same y = refl

pub typeless_so : (t : Typ) → is_narrow 0 t ≡ true → is_typeless t ≡ true
typeless_so t h = (λ i. fold-Typ Bool (λ y. sym (typeless_same y) i) t) ∙ h

pub closed_so : (types : Types) (t : Typ) → formed types 0 t ≡ true → typ_kinded [] t ≡ true → is_closed t ≡ true
closed_so types t f k =
    two (is_numberless t) (is_typeless t) (numberless_so t zero k) (typeless_so t (narrow_so types 0 t f))
