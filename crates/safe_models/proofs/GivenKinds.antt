-- What arguments give to the variables of a function of an accepted text is of their kinds: each variable is used in types as what it stands for.
use Rattle.std.proofs.Common.{◌≡◌, ◌∙◌, ap, sym, refl, subst, ℕ, suc, ◌+◌, Bool, true, false, List, [], ◌∷◌, map, arith}
use Rattle.std.specs.Prelude.{Option, Some, None}
use Rattle.std.proofs.lemmas.Bool.{and_parts}
use Rattle.sail_base.specs.declared.kind.Kind.{Kind}
use Rattle.sail_base.specs.declared.kind.Kind.TheVariants as K
use Rattle.sail_types.specs.Places.{first, form_is, is_variable, only}
use Rattle.sail_types.specs.declared.numbers.Con.{Con, out-Con, roll-out-Con}
use Rattle.sail_types.specs.declared.numbers.Index.{Index}
use Rattle.sail_types.specs.declared.numbers.Index.TheVariants as N
use Rattle.sail_types.specs.declared.numbers.Num.{Num}
use Rattle.sail_types.specs.declared.table.Parameter.{Parameter}
use Rattle.sail_types.specs.declared.types.Typ.{Typ, Typ-F, fold-Typ, roll-Typ}
use Rattle.sail_types.specs.declared.types.Typ.TheFolds.{fold-roll-Typ, map-Typ, ind-Typ}
use Rattle.sail_types.specs.declared.types.Typ.TheOpen as T
use Rattle.sail_syntax.specs.declared.definitions.Def.{Def}
use Rattle.sail_signatures.specs.declared.signature.Signature.{Signature}
use Rattle.sail_tables.specs.Refused.{signature_in}
use Rattle.type_definitions.specs.Defined.{types_of}
use Rattle.sail_core.specs.Numbers.{Givens}
use Rattle.value_indices.specs.declared.indices.Indices.{Indices, out-Indices}
use Rattle.value_indices.specs.declared.indices.Indices.TheOpen as W
use Rattle.value_indices.specs.declared.indices.Indices.TheOpen.{Indices-F}
use Rattle.value_indices.specs.declared.indices.Reading.{Reading}
use Rattle.value_fits.specs.Fitting.{Placed, among, form_place, placed, placed_form}
use Rattle.call_arguments.specs.Callees.{numbers_from, or_zero}
use Rattle.call_fits.specs.Calls.{is_bool}
use Rattle.size_splits.specs.Sizing.{is_truth_kind}
use Rattle.shape_joins.proofs.JoinsLeast.{none, some_same}
use Rattle.shape_rules.specs.Calls.{parameters_of}
use Rattle.shape_declarations.specs.Signatures.{number_parameters}
use Rattle.shape_meanings.specs.Whole.{all_of}
use Rattle.shape_progress.specs.Conditions.{given_in, truth_given}
use Rattle.text_progress.specs.Laws.{core_of}
use Rattle.text_progress.proofs.Given.{holds_there, parameters_kinded, stand_ins, variable_there}
use Rattle.text_progress.proofs.KindedTypes.{Kinded, all_kinded, form_kinded, inside, typ_kinded}
use Rattle.text_progress.proofs.Told.{signed_kinded}
use Rattle.safe_models.proofs.EachFunction.{each_function}
use Rattle.safe_models.proofs.Placed.{KindAs, out_of}
use Rattle.safe_models.proofs.PlacedVariables.{Alike, alike, as_it_is, later}
use Rattle.covering_laws.specs.Apart.{AreOfKinds, GivesKinds, is_truth_index}

-- what is given is of the kind that the variable stands for
abbrev IsAs : Givens → ℕ → Index → Type 0
IsAs nu j x = KindAs nu j (is_truth_index x)

only_is : (b : Bool) (x y : Index) → only b x ≡ Some y → (b ≡ true) × (x ≡ y)
only_is true x y e = (refl, some_same x y e)
only_is false x y e = none e

by_first : (nu : Givens) (j : ℕ) (o p : Option Index) (x : Index) → (o ≡ Some x → IsAs nu j x) → (p ≡ Some x → IsAs nu j x) → first o p ≡ Some x
    → IsAs nu j x
by_first nu j None p x own others e = others e
by_first nu j (Some y) p x own others e = own e

-- ---- one form

number_given : (nu : Givens) (n m : Num) (j : ℕ) (x : Index) → given_in nu n ≡ true → only (is_variable j n) (N.Number m) ≡ Some x → IsAs nu j x
number_given nu n m j x h e =
    let o = only_is (is_variable j n) (N.Number m) x e in subst (IsAs nu j) o.1 (variable_there nu j n o.0 h)

int_given : (nu : Givens) (n : Num) (j : ℕ) (form : Indices-F Indices Reading) (x : Index) → given_in nu n ≡ true
    → form_place (T.Int n) j form ≡ Some x → IsAs nu j x
int_given nu n j (W.Integer m) x h e = number_given nu n m j x h e
int_given nu n j form x h e = none e

bits_given : (nu : Givens) (n : Num) (j : ℕ) (form : Indices-F Indices Reading) (x : Index) → given_in nu n ≡ true
    → form_place (T.Bits n) j form ≡ Some x → IsAs nu j x
bits_given nu n j (W.Bits m) x h e = number_given nu n m j x h e
bits_given nu n j form x h e = none e

vector_given : (nu : Givens) (n : Num) (item : Placed) (j : ℕ) (form : Indices-F Indices Reading) (x : Index) → given_in nu n ≡ true
    → form_place (T.Vector n item) j form ≡ Some x → IsAs nu j x
vector_given nu n item j (W.Vector m r) x h e = number_given nu n m j x h e
vector_given nu n item j form x h e = none e

truth_is_given : (nu : Givens) (c : Con) (j : ℕ) (form : Indices-F Indices Reading) (x : Index) → truth_given nu c ≡ true
    → form_place (T.Truth c) j form ≡ Some x → IsAs nu j x
truth_is_given nu c j (W.Truth d) x h e =
    let o = only_is (form_is j (out-Con c)) (N.Truth d) x e in
    subst (IsAs nu j) o.1 (holds_there nu j (out-Con c) o.0 (ap (truth_given nu) (roll-out-Con c) ∙ h))
truth_is_given nu c j form x h e = none e

-- ---- all forms

abbrev GivenSo : Typ → Type 0
GivenSo t = (nu : Givens) (j : ℕ) (i : Indices) (x : Index) → typ_kinded nu t ≡ true → placed t j i ≡ Some x → IsAs nu j x

abbrev Such : Type 0
Such = (t : Typ) × GivenSo t

abbrev types : List Such → List Typ
types ys = map (λ (p : Such). p.0) ys

abbrev forms : Typ-F Such → Typ-F Typ
forms y = map-Typ Such Typ (λ p. p.0) y

abbrev places : List Such → List Placed
places ys = map (λ t. fold-Typ Placed placed_form t) (types ys)

abbrev kinds : Givens → List Such → Bool
kinds nu ys = all_of (map (λ f. f nu) (map (λ t. fold-Typ Kinded form_kinded t) (types ys)))

parts_so : (ys : List Such) (nu : Givens) (j : ℕ) (is : List Indices) (x : Index) → kinds nu ys ≡ true → among (places ys) j is ≡ Some x → IsAs nu j x
parts_so [] nu j is x h e = none e
parts_so (y ∷ ys) nu j [] x h e = none e
parts_so (y ∷ ys) nu j (i ∷ is) x h e =
    let own = and_parts (typ_kinded nu y.0) (kinds nu ys) h in
    by_first nu j (placed y.0 j i) (among (places ys) j is) x (λ k. y.1 nu j i x own.0 k) (λ k. parts_so ys nu j is x own.1 k) e

tuple_so : (ys : List Such) (nu : Givens) (j : ℕ) (form : Indices-F Indices Reading) (x : Index) → kinds nu ys ≡ true
    → form_place (T.Tuple (places ys)) j form ≡ Some x → IsAs nu j x
tuple_so ys nu j (W.Tuple is) x h e = parts_so ys nu j is x h e
tuple_so ys nu j form x h e = none e

form_so : (y : Typ-F Such) (nu : Givens) (j : ℕ) (i : Indices) (x : Index)
    → form_kinded (map-Typ Typ Kinded (λ t. fold-Typ Kinded form_kinded t) (forms y)) nu ≡ true
    → placed_form (map-Typ Typ Placed (λ t. fold-Typ Placed placed_form t) (forms y)) j i ≡ Some x → IsAs nu j x
form_so (T.Int n) nu j i x h e = int_given nu n j (out-Indices i) x h e
form_so (T.Truth c) nu j i x h e = truth_is_given nu c j (out-Indices i) x h e
form_so (T.Bits n) nu j i x h e = bits_given nu n j (out-Indices i) x h e
form_so (T.Vector n y) nu j i x h e =
    vector_given nu n (placed y.0) j (out-Indices i) x (and_parts (given_in nu n) (typ_kinded nu y.0) h).0 e
form_so (T.Tuple ys) nu j i x h e = tuple_so ys nu j (out-Indices i) x h e
form_so (T.Exists name c y) nu j i x h e =
    out_of nu j (is_truth_index x) (y.1 (inside nu) (suc j) i x (and_parts (truth_given (inside nu) c) (typ_kinded (inside nu) y.0) h).1 e)
form_so y nu j i x h e = none e

rolled_so : (y : Typ-F Such) → GivenSo (roll-Typ (forms y))
rolled_so y nu j i x h e =
    form_so y nu j i x (sym (ap (λ (f : Kinded). f nu) (fold-roll-Typ Kinded form_kinded (forms y))) ∙ h)
    (sym (ap (λ (f : Placed). f j i) (fold-roll-Typ Placed placed_form (forms y))) ∙ e)

given_so : (t : Typ) → GivenSo t
given_so = ind-Typ GivenSo (λ e y is. subst (λ d. GivenSo (roll-Typ d)) is (rolled_so y))

among_given : (ts : List Typ) (nu : Givens) (j : ℕ) (is : List Indices) (x : Index) → all_kinded nu ts ≡ true → among (map placed ts) j is ≡ Some x
    → IsAs nu j x
among_given [] nu j is x h e = none e
among_given (t ∷ ts) nu j [] x h e = none e
among_given (t ∷ ts) nu j (i ∷ is) x h e =
    let own = and_parts (typ_kinded nu t) (all_kinded nu ts) h in
    by_first nu j (placed t j i) (among (map placed ts) j is) x (λ k. given_so t nu j i x own.0 k) (λ k. among_given ts nu j is x own.1 k) e

-- ---- the variables of a function

kind_is : (kind : Kind) (o : Option Index) → ((x : Index) → o ≡ Some x → is_truth_index x ≡ is_bool kind)
    → is_truth_index (or_zero kind o) ≡ is_truth_kind kind
kind_is K.Int (Some x) h = h x refl
kind_is K.Int None h = refl
kind_is K.Bool (Some x) h = h x refl
kind_is K.Bool None h = refl
kind_is K.Type (Some x) h = h x refl
kind_is K.Type None h = refl

-- from the variable j on
module _ (ts : List Typ) (is : List Indices) where
  abbrev at : ℕ → Option Index
  at j = among (map placed ts) j is

  each_kind : (ps : List Parameter) (nu : Givens) → Alike ps nu → (j : ℕ) → ((i : ℕ) (x : Index) → at (j + i) ≡ Some x → IsAs nu i x)
      → AreOfKinds ps (numbers_from j ps ts is)
  each_kind [] nu a j kind = tt
  each_kind (p ∷ ps) [] a j kind = absurd a
  each_kind (p ∷ ps) (g ∷ nu) a j kind = (
    kind_is p.kind (at j) (λ x e. as_it_is nu g (is_truth_index x) (kind 0 x (sym (ap at (here j)) ∙ e)) ∙ a.0),
    each_kind ps nu a.1 (suc j) (λ i x e. later nu g i (is_truth_index x) (kind (suc i) x (sym (ap at (next j i)) ∙ e))),
  )
    where
      here : (j : ℕ) → j ≡ j + 0
      here j = omega arith

      next : (j i : ℕ) → suc j + i ≡ j + suc i
      next j i = omega arith

-- ---- an accepted text

signature_gives : (text : List Def) (name : List ℕ) (s : Signature) → signature_in text name ≡ Some s → (is : List Indices)
    → AreOfKinds (number_parameters s.variables) (numbers_from 0 (number_parameters s.variables) (parameters_of s.from) is)
signature_gives text name s signed is =
    let nu : Givens = stand_ins s.variables in
    let kinded : all_kinded nu (parameters_of s.from) ≡ true =
    parameters_kinded nu s.from (signed_kinded (types_of text).named text name s signed).0 in
    each_kind (parameters_of s.from) is (number_parameters s.variables) nu (alike s.variables) 0
    (λ i x e. among_given (parameters_of s.from) nu i is x kinded (sym (ap (λ (k : ℕ). among (map placed (parameters_of s.from)) k is) (from_zero i)) ∙ e))
  where
    from_zero : (i : ℕ) → 0 + i ≡ i
    from_zero i = omega arith

pub texts_give_kinds : (text : List Def) (cycle : List ℕ → Option ℕ) → GivesKinds (core_of text cycle)
texts_give_kinds text cycle =
    each_function text cycle (λ f. (is : List Indices) → AreOfKinds f.variables (numbers_from 0 f.variables f.parameters is))
    (λ place name cs s signed c. signature_gives text name s signed)
