-- What a function is called with gives each of its Int variables a number and each of its Bool variables a truth, where values of its parameters tell
-- them: so all that is written of numbers and truths under these variables is given.
use Rattle.std.proofs.Common.{◌≡◌, ℕ, zero, suc, ◌+◌, List, [], ◌∷◌, map, length, ap, sym, ◌∙◌, refl, subst, Bool, true, false, arith}
use Rattle.std.specs.Prelude.{pos, bytes_eq, nat_lt, slice_get, Option, Some, None}
use Rattle.std.specs.List.{list_all}
use Rattle.std.specs.Ordering.{int_eq}
use Rattle.std.proofs.lemmas.Bool.{and_parts}
use Rattle.std.proofs.lemmas.Bool.Decides.{nat_tests}
use Rattle.sail_base.specs.declared.kind.Kind.{Kind}
use Rattle.sail_base.specs.declared.kind.Kind.TheVariants as K
use Rattle.sail_syntax.specs.declared.types.TyExp.{TyExp}
use Rattle.sail_types.specs.Places.{Given, Placed, a_bool, among, an_int, atom_is, first, form_is, form_place, is_variable, only, placed, placed_form}
use Rattle.sail_types.specs.Places.{terms_are}
use Rattle.sail_types.specs.Sums.{terms_of}
use Rattle.sail_types.specs.declared.numbers.Atom.{Atom, out-Atom, roll-Atom}
use Rattle.sail_types.specs.declared.numbers.Atom.TheFolds.{fold-Atom, fold-Term, fold-roll-Atom}
use Rattle.sail_types.specs.declared.numbers.Atom.TheOpen as N
use Rattle.sail_types.specs.declared.numbers.Atom.TheOpen.{Atom-F, Num-F, Term-F}
use Rattle.sail_types.specs.declared.numbers.Atom.TheViews.{roll-out-Atom}
use Rattle.sail_types.specs.declared.numbers.Con.{Con, Con-F, out-Con, roll-Con}
use Rattle.sail_types.specs.declared.numbers.Con.TheFolds.{fold-roll-Con}
use Rattle.sail_types.specs.declared.numbers.Con.TheOpen as C
use Rattle.sail_types.specs.declared.numbers.Con.TheViews.{roll-out-Con}
use Rattle.sail_types.specs.declared.numbers.Num.{Num, out-Num}
use Rattle.sail_types.specs.declared.numbers.Term.{Term, out-Term}
use Rattle.sail_types.specs.declared.types.Typ.{Typ, Typ-F, fold-Typ, out-Typ, roll-Typ}
use Rattle.sail_types.specs.declared.types.Typ.TheFolds.{fold-roll-Typ, fold_out-Typ, map-Typ, ind-Typ}
use Rattle.sail_types.specs.declared.types.Typ.TheOpen as T
use Rattle.sail_types.specs.declared.values.Value.{Value, Value-F, out-Value}
use Rattle.sail_types.specs.declared.values.Value.TheOpen as W
use Rattle.type_arguments.specs.Taken.{constraint_of, number_of, typ_of}
use Rattle.type_arguments.proofs.Makings.{more_parts, then_parts}
use Rattle.sail_kinds.specs.declared.scope.Variable.{Variable}
use Rattle.sail_kinds.specs.Normal.{reading_as}
use Rattle.sail_kinds.specs.Scopes.{Within, variable_of}
use Rattle.sail_core.specs.Numbers.{Givens, given_bool, given_int, givens_from, givens_of}
use Rattle.shape_joins.proofs.JoinsLeast.{none, some_same}
use Rattle.shape_joins.proofs.Order.{equal, no, two}
use Rattle.shape_meanings.specs.Whole.{all_of}
use Rattle.shape_progress.specs.Conditions.{atom_given, con_given, given_in, is_there, truth_given}
use Rattle.shape_rules.specs.Calls.{parameters_form, parameters_of}
use Rattle.shape_rules.specs.Patterns.{width_form, width_of}
use Rattle.shape_rules.specs.Written.{constraint_in, number_in, typ_in}
use Rattle.text_progress.specs.GivenTypes.{form_given, typ_given}
use Rattle.text_progress.proofs.GivenNumbers.{given_parts, term_parts}
use Rattle.text_progress.proofs.KindedTypes.{Kinded, all_kinded, form_kinded, inside, none_below, same_test, typ_kinded}
use Rattle.text_progress.proofs.TextsGiven.{ScopeGiven, StandsFor, behind_kind, number_taken, one_behind, text_given, truth_taken, typ_taken}

-- ---- where type variables stand for such, what is written of them is given

pub number_there : (nu : Givens) (w : Within) → ScopeGiven nu w.variables → (typ : TyExp) (n : Num) → number_in w typ ≡ Some n → given_in nu n ≡ true
number_there nu w scope typ n e =
    let x = then_parts (reading_as K.Int typ w).normal number_of n e in number_taken nu x.0 n (text_given K.Int typ nu w scope x.0 x.1) x.2

pub truth_there : (nu : Givens) (w : Within) → ScopeGiven nu w.variables → (typ : TyExp) (c : Con) → constraint_in w typ ≡ Some c
    → truth_given nu c ≡ true
truth_there nu w scope typ c e =
    let x = then_parts (reading_as K.Bool typ w).normal constraint_of c e in truth_taken nu x.0 c (text_given K.Bool typ nu w scope x.0 x.1) x.2

pub typ_there : (nu : Givens) (w : Within) → ScopeGiven nu w.variables → (typ : TyExp) (t : Typ) → typ_in w typ ≡ Some t
    → (typ_given nu t ≡ true) × (typ_kinded nu t ≡ true)
typ_there nu w scope typ t e =
    let x = then_parts (reading_as K.Type typ w).normal typ_of t e in typ_taken nu x.0 t (text_given K.Type typ nu w scope x.0 x.1) x.2

form_width_given : (nu : Givens) (x : Typ-F Typ) (n : Num) → form_given nu (map-Typ Typ Bool (typ_given nu) x) ≡ true → width_form x ≡ Some n
    → given_in nu n ≡ true
form_width_given nu (T.Bits m) n h e = subst (λ y. given_in nu y ≡ true) (some_same m n e) h
form_width_given nu x n h e = none e

pub width_given : (nu : Givens) (t : Typ) (n : Num) → typ_given nu t ≡ true → width_of t ≡ Some n → given_in nu n ≡ true
width_given nu t n h e = form_width_given nu (out-Typ t) n (sym (fold_out-Typ Bool (form_given nu) t) ∙ h) e

-- ---- a place that tells a variable's number or truth

abbrev KindAt : Givens → ℕ → Given → Type 0
KindAt nu j (an_int z) = is_there (given_int (slice_get nu j)) ≡ true
KindAt nu j (a_bool b) = is_there (given_bool (slice_get nu j)) ≡ true

out_of : (nu : Givens) (j : ℕ) (g : Given) → KindAt (inside nu) (suc j) g → KindAt nu j g
out_of nu j (an_int z) h = h
out_of nu j (a_bool b) h = h

abbrev all_terms : Num-F Bool Bool Bool → Bool
all_terms n = list_all (λ b. b) n.terms

abbrev own_atom : Term-F Bool Bool Bool → Bool
own_atom t = t.atom

abbrev over_atom : Givens → Atom → Bool
over_atom nu = fold-Atom Bool Bool Bool (atom_given nu) all_terms own_atom

abbrev over_term : Givens → Term → Bool
over_term nu = fold-Term Bool Bool Bool (atom_given nu) all_terms own_atom

atom_there : (nu : Givens) (j : ℕ) (x : Atom-F Atom Num Term) → atom_is j x ≡ true → over_atom nu (roll-Atom x) ≡ true
    → is_there (given_int (slice_get nu j)) ≡ true
atom_there nu j (N.Variable i) h k =
    subst (λ m. is_there (given_int (slice_get nu m)) ≡ true) (equal i j h)
    (sym (fold-roll-Atom Bool Bool Bool (atom_given nu) all_terms own_atom (N.Variable i)) ∙ k)
atom_there nu j (N.Power t) h k = no h

terms_there : (nu : Givens) (j : ℕ) (ts : List Term) → terms_are j ts ≡ true → list_all (λ b. b) (map (over_term nu) ts) ≡ true
    → is_there (given_int (slice_get nu j)) ≡ true
terms_there nu j [] h k = no h
terms_there nu j (t ∷ []) h k =
    let alone = and_parts (int_eq (out-Term t).coefficient (pos 1)) (atom_is j (out-Atom (out-Term t).atom)) h in
    let own = and_parts (over_term nu t) true k in
    atom_there nu j (out-Atom (out-Term t).atom) alone.1
    (ap (over_atom nu) (roll-out-Atom (out-Term t).atom) ∙ sym (term_parts nu t) ∙ own.0)
terms_there nu j (t ∷ u ∷ ts) h k = no h

pub variable_there : (nu : Givens) (j : ℕ) (n : Num) → is_variable j n ≡ true → given_in nu n ≡ true → is_there (given_int (slice_get nu j)) ≡ true
variable_there nu j n h k =
    terms_there nu j (terms_of n) (and_parts (int_eq (out-Num n).constant (pos 0)) (terms_are j (out-Num n).terms) h).1 (sym (given_parts nu n) ∙ k)

pub holds_there : (nu : Givens) (j : ℕ) (x : Con-F Con) → form_is j x ≡ true → truth_given nu (roll-Con x) ≡ true
    → is_there (given_bool (slice_get nu j)) ≡ true
holds_there nu j (C.Holds i) h k =
    subst (λ m. is_there (given_bool (slice_get nu m)) ≡ true) (equal i j h) (sym (fold-roll-Con Bool (con_given nu) (C.Holds i)) ∙ k)
holds_there nu j x h k = no h

only_is : (b : Bool) (x g : Given) → only b x ≡ Some g → (b ≡ true) × (x ≡ g)
only_is true x g e = (refl, some_same x g e)
only_is false x g e = none e

-- the first of two
by_first : (nu : Givens) (j : ℕ) (o p : Option Given) (g : Given) → (o ≡ Some g → KindAt nu j g) → (p ≡ Some g → KindAt nu j g)
    → first o p ≡ Some g → KindAt nu j g
by_first nu j None p g own others e = others e
by_first nu j (Some x) p g own others e = own e

-- ---- one form

int_place : (nu : Givens) (n : Num) (j : ℕ) (x : Value-F Value) (g : Given) → given_in nu n ≡ true → form_place (T.Int n) j x ≡ Some g → KindAt nu j g
int_place nu n j (W.Integer z) g h e =
    let o = only_is (is_variable j n) (an_int z) g e in subst (KindAt nu j) o.1 (variable_there nu j n o.0 h)
int_place nu n j x g h e = none e

bits_place : (nu : Givens) (n : Num) (j : ℕ) (x : Value-F Value) (g : Given) → given_in nu n ≡ true → form_place (T.Bits n) j x ≡ Some g → KindAt nu j g
bits_place nu n j (W.Bits bits) g h e =
    let o = only_is (is_variable j n) (an_int (pos (length bits))) g e in subst (KindAt nu j) o.1 (variable_there nu j n o.0 h)
bits_place nu n j x g h e = none e

vector_place : (nu : Givens) (n : Num) (f : Placed) (j : ℕ) (x : Value-F Value) (g : Given) → given_in nu n ≡ true
    → form_place (T.Vector n f) j x ≡ Some g → KindAt nu j g
vector_place nu n f j (W.Vector vs) g h e =
    let o = only_is (is_variable j n) (an_int (pos (length vs))) g e in subst (KindAt nu j) o.1 (variable_there nu j n o.0 h)
vector_place nu n f j x g h e = none e

truth_place : (nu : Givens) (c : Con) (j : ℕ) (x : Value-F Value) (g : Given) → truth_given nu c ≡ true → form_place (T.Truth c) j x ≡ Some g
    → KindAt nu j g
truth_place nu c j (W.Truth b) g h e =
    let o = only_is (form_is j (out-Con c)) (a_bool b) g e in
    subst (KindAt nu j) o.1 (holds_there nu j (out-Con c) o.0 (ap (truth_given nu) (roll-out-Con c) ∙ h))
truth_place nu c j x g h e = none e

-- ---- all forms

abbrev PlacedSo : Typ → Type 0
PlacedSo t = (nu : Givens) (j : ℕ) (v : Value) (g : Given) → typ_kinded nu t ≡ true → placed t j v ≡ Some g → KindAt nu j g

abbrev Such : Type 0
Such = (t : Typ) × PlacedSo t

abbrev types : List Such → List Typ
types ys = map (λ (p : Such). p.0) ys

abbrev forms : Typ-F Such → Typ-F Typ
forms y = map-Typ Such Typ (λ p. p.0) y

abbrev places : List Such → List Placed
places ys = map (λ t. fold-Typ Placed placed_form t) (types ys)

abbrev kinds : Givens → List Such → Bool
kinds nu ys = all_of (map (λ f. f nu) (map (λ t. fold-Typ Kinded form_kinded t) (types ys)))

among_so : (ys : List Such) (nu : Givens) (j : ℕ) (vs : List Value) (g : Given) → kinds nu ys ≡ true → among (places ys) j vs ≡ Some g → KindAt nu j g
among_so [] nu j vs g h e = none e
among_so (y ∷ ys) nu j [] g h e = none e
among_so (y ∷ ys) nu j (v ∷ vs) g h e =
    let own = and_parts (typ_kinded nu y.0) (kinds nu ys) h in
    by_first nu j (placed y.0 j v) (among (places ys) j vs) g (λ k. y.1 nu j v g own.0 k) (λ k. among_so ys nu j vs g own.1 k) e

tuple_place : (ys : List Such) (nu : Givens) (j : ℕ) (x : Value-F Value) (g : Given) → kinds nu ys ≡ true → form_place (T.Tuple (places ys)) j x ≡ Some g
    → KindAt nu j g
tuple_place ys nu j (W.Tuple vs) g h e = among_so ys nu j vs g h e
tuple_place ys nu j x g h e = none e

form_so : (y : Typ-F Such) (nu : Givens) (j : ℕ) (v : Value) (g : Given)
    → form_kinded (map-Typ Typ Kinded (λ t. fold-Typ Kinded form_kinded t) (forms y)) nu ≡ true
    → placed_form (map-Typ Typ Placed (λ t. fold-Typ Placed placed_form t) (forms y)) j v ≡ Some g → KindAt nu j g
form_so (T.Int n) nu j v g h e = int_place nu n j (out-Value v) g h e
form_so (T.Truth c) nu j v g h e = truth_place nu c j (out-Value v) g h e
form_so (T.Bits n) nu j v g h e = bits_place nu n j (out-Value v) g h e
form_so (T.Vector n y) nu j v g h e =
    vector_place nu n (placed y.0) j (out-Value v) g (and_parts (given_in nu n) (typ_kinded nu y.0) h).0 e
form_so (T.Tuple ys) nu j v g h e = tuple_place ys nu j (out-Value v) g h e
form_so (T.Exists name c y) nu j v g h e =
    out_of nu j g (y.1 (inside nu) (suc j) v g (and_parts (truth_given (inside nu) c) (typ_kinded (inside nu) y.0) h).1 e)
form_so y nu j v g h e = none e

rolled_so : (y : Typ-F Such) → PlacedSo (roll-Typ (forms y))
rolled_so y nu j v g h e =
    form_so y nu j v g (sym (ap (λ (f : Kinded). f nu) (fold-roll-Typ Kinded form_kinded (forms y))) ∙ h)
    (sym (ap (λ (f : Placed). f j v) (fold-roll-Typ Placed placed_form (forms y))) ∙ e)

placed_so : (t : Typ) → PlacedSo t
placed_so = ind-Typ PlacedSo (λ e y is. subst (λ d. PlacedSo (roll-Typ d)) is (rolled_so y))

-- ---- the parameters of a function

among_kinds : (ts : List Typ) (nu : Givens) (j : ℕ) (vs : List Value) (g : Given) → all_kinded nu ts ≡ true
    → among (map (λ t. placed t) ts) j vs ≡ Some g → KindAt nu j g
among_kinds [] nu j vs g h e = none e
among_kinds (t ∷ ts) nu j [] g h e = none e
among_kinds (t ∷ ts) nu j (v ∷ vs) g h e =
    let own = and_parts (typ_kinded nu t) (all_kinded nu ts) h in
    by_first nu j (placed t j v) (among (map (λ u. placed u) ts) j vs) g (λ k. placed_so t nu j v g own.0 k) (λ k. among_kinds ts nu j vs g own.1 k) e

none_more : (i : ℕ) → i + 0 ≡ i
none_more i = omega arith

each_at : (n i : ℕ) (ts : List Typ) (vs : List Value) (nu : Givens) → givens_from n i ts vs ≡ Some nu → (j : ℕ) → nat_lt j n ≡ true
    → (g : Given) × (slice_get nu j ≡ Some g) × (among (map placed ts) (i + j) vs ≡ Some g)
each_at zero i ts vs nu e j low = no (sym (none_below j) ∙ low)
each_at (suc n) i ts vs nu e zero low =
    let m = more_parts (among (map placed ts) i vs) (givens_from n (suc i) ts vs) nu e in
    (m.0, ap (λ xs. slice_get xs 0) (sym m.4), ap (λ k. among (map placed ts) k vs) (none_more i) ∙ m.2)
each_at (suc n) i ts vs nu e (suc j) low =
    let m = more_parts (among (map placed ts) i vs) (givens_from n (suc i) ts vs) nu e in
    let it = each_at n (suc i) ts vs m.1 m.3 j (sym (same_test j n) ∙ low) in
    let same : suc i + j ≡ i + suc j = omega arith in
    (it.0, ap (λ xs. slice_get xs (suc j)) (sym m.4) ∙ it.1, ap (λ k. among (map placed ts) k vs) (sym same) ∙ it.2)

-- what type variables are, by their kinds
abbrev pub stand_ins : List Variable → Givens
stand_ins [] = []
stand_ins (v ∷ variables) = behind_kind v.kind (stand_ins variables)

pub own_scope : (variables : List Variable) → ScopeGiven (stand_ins variables) variables
own_scope [] name = λ found e. none e
own_scope (v ∷ variables) name =
    one_behind v.kind (bytes_eq v.name name) (variable_of name variables) (stand_ins variables) (own_scope variables name)

pub below_length : (nu : Givens) (i : ℕ) (f : Option Given → Bool) → f None ≡ false → f (slice_get nu i) ≡ true → nat_lt i (length nu) ≡ true
below_length [] i f nothing h = no (sym nothing ∙ h)
below_length (g ∷ nu) zero f nothing h = grind (arith, nat_tests)
below_length (g ∷ nu) (suc i) f nothing h = same_test i (length nu) ∙ below_length nu i f nothing h

not_both : {A : Type 0} (o : Option Given) → is_there (given_int o) ≡ true → is_there (given_bool o) ≡ true → A
not_both None h k = no h
not_both (Some (an_int z)) h k = no k
not_both (Some (a_bool b)) h k = no h

int_now : (own : Givens) (i : ℕ) (o : Option Given) (g : Given) → o ≡ Some g → KindAt own i g → is_there (given_int (slice_get own i)) ≡ true
    → is_there (given_int o) ≡ true
int_now own i o (an_int z) is k h = ap (λ x. is_there (given_int x)) is
int_now own i o (a_bool b) is k h = not_both (slice_get own i) h k

bool_now : (own : Givens) (i : ℕ) (o : Option Given) (g : Given) → o ≡ Some g → KindAt own i g → is_there (given_bool (slice_get own i)) ≡ true
    → is_there (given_bool o) ≡ true
bool_now own i o (an_int z) is k h = not_both (slice_get own i) k h
bool_now own i o (a_bool b) is k h = ap (λ x. is_there (given_bool x)) is

module _ (own : Givens) (ts : List Typ) (vs : List Value) (nu : Givens) (all : all_kinded own ts ≡ true)
    (gave : givens_of (length own) ts vs ≡ Some nu) where
  it_is : (i : ℕ) → nat_lt i (length own) ≡ true → (g : Given) × (slice_get nu i ≡ Some g) × KindAt own i g
  it_is i low =
      let x = each_at (length own) 0 ts vs nu gave i low in
      let here : among (map (λ t. placed t) ts) i vs ≡ Some x.0 = ap (λ k. among (map placed ts) k vs) (zero_more i) ∙ x.2 in
      (x.0, x.1, among_kinds ts own i vs x.0 all here)
    where
      zero_more : (i : ℕ) → i ≡ 0 + i
      zero_more i = omega arith

  still : (kind : Kind) (i : ℕ) → StandsFor own kind i → StandsFor nu kind i
  still K.Type i h = tt
  still K.Int i h =
      let x = it_is i (below_length own i (λ o. is_there (given_int o)) refl h) in int_now own i (slice_get nu i) x.0 x.1 x.2 h
  still K.Bool i h =
      let x = it_is i (below_length own i (λ o. is_there (given_bool o)) refl h) in bool_now own i (slice_get nu i) x.0 x.1 x.2 h

-- values of parameters that are written under type variables give these what they stand for
pub scope_given : (variables : List Variable) (ts : List Typ) (vs : List Value) (nu : Givens) → all_kinded (stand_ins variables) ts ≡ true
    → givens_of (length (stand_ins variables)) ts vs ≡ Some nu → ScopeGiven nu variables
scope_given variables ts vs nu all gave name found e =
    still (stand_ins variables) ts vs nu all gave found.kind found.number (own_scope variables name found e)

-- ---- parameters of a written type

parts_kinded : (nu : Givens) (ts : List Typ) → all_of (map (λ f. f nu) (map (λ t. fold-Typ Kinded form_kinded t) ts)) ≡ true → all_kinded nu ts ≡ true
parts_kinded nu [] h = refl
parts_kinded nu (t ∷ ts) h =
    let own = and_parts (typ_kinded nu t) (all_of (map (λ f. f nu) (map (λ u. fold-Typ Kinded form_kinded u) ts))) h in
    two (typ_kinded nu t) (all_kinded nu ts) own.0 (parts_kinded nu ts own.1)

parameters_so : (nu : Givens) (t : Typ) (x : Typ-F Typ) → typ_kinded nu t ≡ true
    → form_kinded (map-Typ Typ Kinded (λ u. fold-Typ Kinded form_kinded u) x) nu ≡ true → all_kinded nu (parameters_form t x) ≡ true
parameters_so nu t (T.Tuple ts) h k = parts_kinded nu ts k
parameters_so nu t x h k = two (typ_kinded nu t) true h refl

pub parameters_kinded : (nu : Givens) (t : Typ) → typ_kinded nu t ≡ true → all_kinded nu (parameters_of t) ≡ true
parameters_kinded nu t h = parameters_so nu t (out-Typ t) h (sym (ap (λ (f : Kinded). f nu) (fold_out-Typ Kinded form_kinded t)) ∙ h)
