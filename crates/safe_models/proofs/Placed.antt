-- Where each variable is used as what it stands for, its place in a type is of its kind.
use Rattle.std.proofs.Common.{◌≡◌, ◌≤◌, ℕ, suc, List, [], ◌∷◌, map, length, ap, sym, ◌∙◌, refl, subst, Bool, true, false, le-ltb}
use Rattle.std.specs.Prelude.{Option, Some, None, nat_lt, slice_get}
use Rattle.std.proofs.lemmas.Bool.{and_parts}
use Rattle.sail_types.specs.Places.{first, form_is, is_variable, only}
use Rattle.sail_types.specs.declared.numbers.Con.{Con, out-Con, roll-out-Con}
use Rattle.sail_types.specs.declared.numbers.Num.{Num}
use Rattle.sail_types.specs.declared.types.Typ.{Typ, Typ-F, fold-Typ, roll-Typ}
use Rattle.sail_types.specs.declared.types.Typ.TheFolds.{fold-roll-Typ, map-Typ, ind-Typ}
use Rattle.sail_types.specs.declared.types.Typ.TheOpen as T
use Rattle.sail_core.specs.Numbers.{Givens, given_bool, given_int}
use Rattle.shape_joins.proofs.JoinsLeast.{none, some_same}
use Rattle.shape_joins.proofs.Order.{no}
use Rattle.shape_meanings.specs.Whole.{all_of}
use Rattle.shape_progress.specs.Conditions.{given_in, is_there, truth_given}
use Rattle.call_fits.specs.Calls.{Kinds, among_as, form_as, placed_as}
use Rattle.text_progress.proofs.Given.{below_length, holds_there, variable_there}
use Rattle.text_progress.proofs.KindedTypes.{Kinded, all_kinded, form_kinded, inside, typ_kinded}

-- it stands for a truth, or for a number
abbrev pub KindAs : Givens → ℕ → Bool → Type 0
KindAs nu j true = is_there (given_bool (slice_get nu j)) ≡ true
KindAs nu j false = is_there (given_int (slice_get nu j)) ≡ true

pub out_of : (nu : Givens) (j : ℕ) (b : Bool) → KindAs (inside nu) (suc j) b → KindAs nu j b
out_of nu j true h = h
out_of nu j false h = h

only_as : (b x c : Bool) → only b x ≡ Some c → (b ≡ true) × (x ≡ c)
only_as true x c e = (refl, some_same x c e)
only_as false x c e = none e

by_first : (nu : Givens) (j : ℕ) (o p : Option Bool) (b : Bool) → (o ≡ Some b → KindAs nu j b) → (p ≡ Some b → KindAs nu j b)
    → first o p ≡ Some b → KindAs nu j b
by_first nu j None p b own others e = others e
by_first nu j (Some x) p b own others e = own e

-- ---- one form

number_place : (nu : Givens) (n : Num) (j : ℕ) (b : Bool) → given_in nu n ≡ true → only (is_variable j n) false ≡ Some b → KindAs nu j b
number_place nu n j b h e =
    let o = only_as (is_variable j n) false b e in subst (KindAs nu j) o.1 (variable_there nu j n o.0 h)

truth_place : (nu : Givens) (c : Con) (j : ℕ) (b : Bool) → truth_given nu c ≡ true → only (form_is j (out-Con c)) true ≡ Some b → KindAs nu j b
truth_place nu c j b h e =
    let o = only_as (form_is j (out-Con c)) true b e in
    subst (KindAs nu j) o.1 (holds_there nu j (out-Con c) o.0 (ap (truth_given nu) (roll-out-Con c) ∙ h))

-- ---- all forms

abbrev PlacedSo : Typ → Type 0
PlacedSo t = (nu : Givens) (j : ℕ) (b : Bool) → typ_kinded nu t ≡ true → placed_as t j ≡ Some b → KindAs nu j b

abbrev Such : Type 0
Such = (t : Typ) × PlacedSo t

abbrev types : List Such → List Typ
types ys = map (λ (p : Such). p.0) ys

abbrev forms : Typ-F Such → Typ-F Typ
forms y = map-Typ Such Typ (λ p. p.0) y

abbrev places : List Such → List Kinds
places ys = map (λ t. fold-Typ Kinds form_as t) (types ys)

abbrev kinds : Givens → List Such → Bool
kinds nu ys = all_of (map (λ f. f nu) (map (λ t. fold-Typ Kinded form_kinded t) (types ys)))

among_so : (ys : List Such) (nu : Givens) (j : ℕ) (b : Bool) → kinds nu ys ≡ true → among_as (places ys) j ≡ Some b → KindAs nu j b
among_so [] nu j b h e = none e
among_so (y ∷ ys) nu j b h e =
    let own = and_parts (typ_kinded nu y.0) (kinds nu ys) h in
    by_first nu j (placed_as y.0 j) (among_as (places ys) j) b (λ k. y.1 nu j b own.0 k) (λ k. among_so ys nu j b own.1 k) e

form_so : (y : Typ-F Such) (nu : Givens) (j : ℕ) (b : Bool)
    → form_kinded (map-Typ Typ Kinded (λ t. fold-Typ Kinded form_kinded t) (forms y)) nu ≡ true
    → form_as (map-Typ Typ Kinds (λ t. fold-Typ Kinds form_as t) (forms y)) j ≡ Some b → KindAs nu j b
form_so (T.Int n) nu j b h e = number_place nu n j b h e
form_so (T.Truth c) nu j b h e = truth_place nu c j b h e
form_so (T.Bits n) nu j b h e = number_place nu n j b h e
form_so (T.Vector n y) nu j b h e = number_place nu n j b (and_parts (given_in nu n) (typ_kinded nu y.0) h).0 e
form_so (T.Tuple ys) nu j b h e = among_so ys nu j b h e
form_so (T.Exists name c y) nu j b h e =
    out_of nu j b (y.1 (inside nu) (suc j) b (and_parts (truth_given (inside nu) c) (typ_kinded (inside nu) y.0) h).1 e)
form_so y nu j b h e = none e

rolled_so : (y : Typ-F Such) → PlacedSo (roll-Typ (forms y))
rolled_so y nu j b h e =
    form_so y nu j b (sym (ap (λ (f : Kinded). f nu) (fold-roll-Typ Kinded form_kinded (forms y))) ∙ h)
    (sym (ap (λ (f : Kinds). f j) (fold-roll-Typ Kinds form_as (forms y))) ∙ e)

placed_so : (t : Typ) → PlacedSo t
placed_so = ind-Typ PlacedSo (λ e y is. subst (λ d. PlacedSo (roll-Typ d)) is (rolled_so y))

-- ---- parameters

pub among_kinds : (ts : List Typ) (nu : Givens) (j : ℕ) (b : Bool) → all_kinded nu ts ≡ true → among_as (map placed_as ts) j ≡ Some b → KindAs nu j b
among_kinds [] nu j b h e = none e
among_kinds (t ∷ ts) nu j b h e =
    let own = and_parts (typ_kinded nu t) (all_kinded nu ts) h in
    by_first nu j (placed_as t j) (among_as (map placed_as ts) j) b (λ k. placed_so t nu j b own.0 k) (λ k. among_kinds ts nu j b own.1 k) e

-- a variable past those that stand for something has none
low : (nu : Givens) (j : ℕ) (b : Bool) → KindAs nu j b → nat_lt j (length nu) ≡ true
low nu j true h = below_length nu j (λ o. is_there (given_bool o)) refl h
low nu j false h = below_length nu j (λ o. is_there (given_int o)) refl h

not_some : (o : Option Bool) (c : Bool) → c ≡ false → ((b : Bool) → o ≡ Some b → c ≡ true) → o ≡ None
not_some None c is h = refl
not_some (Some b) c is h = no (sym is ∙ h b refl)

pub none_past : (ts : List Typ) (nu : Givens) (j : ℕ) → all_kinded nu ts ≡ true → length nu ≤ j → among_as (map placed_as ts) j ≡ None
none_past ts nu j h past =
    not_some (among_as (map placed_as ts) j) (nat_lt j (length nu)) (le-ltb j (length nu) past) (λ b e. low nu j b (among_kinds ts nu j b h e))
