-- A value of a type without holes is opened to indices without them.
use Rattle.std.proofs.Common.{◌≡◌, ◌∙◌, ℕ, zero, suc, Bool, true, false, List, [], ◌∷◌, if◌then◌else◌, map, slice_get, Option, Some, None, option_map}
use Rattle.std.proofs.Common.{refl, sym, ap, subst}
use Rattle.std.specs.List.{list_any}
use Rattle.std.proofs.lemmas.Bool.{or_from}
use Rattle.std.proofs.lemmas.Option.{slice_get-map}
use Rattle.sail_types.specs.Sums.{is_constant, variable}
use Rattle.sail_types.proofs.SumNumbers.{some_same}
use Rattle.sail_types.specs.declared.numbers.Con.{Con}
use Rattle.sail_types.specs.declared.numbers.Con.TheVariants as C
use Rattle.sail_types.specs.declared.numbers.Index.{Index}
use Rattle.sail_types.specs.declared.numbers.Num.{Num}
use Rattle.sail_types.specs.declared.types.Typ.{Typ, Typ-F, roll-Typ}
use Rattle.sail_types.specs.declared.types.Typ.TheFolds.{ind-Typ, map-Typ, para-roll-Typ}
use Rattle.sail_types.specs.declared.types.Typ.TheOpen as T
use Rattle.value_indices.specs.Opening.{Inner as Inside, Opening, any_integer, any_truth, between, bits_of, bits_opened, bound_above, bound_below}
use Rattle.value_indices.specs.Opening.{bound_inside, each_read, form_opened, fresh_for, integer_between, integer_of, integer_opened, largest_num}
use Rattle.value_indices.specs.Opening.{least_num, longest, named_opened, namings_of, number_or_fresh, opening, openings, parts_opened, range_opened}
use Rattle.value_indices.specs.Opening.{reading_opened, readings, truth_opened, truth_or_fresh, tuple_of, typ_opened, variable_opened, vector_of}
use Rattle.value_indices.specs.Opening.{vector_opened, wide_opening, widened_opened, widest, with_openings, zero_num}
use Rattle.value_indices.specs.Steps.{Walk, assume_if, bind, give}
use Rattle.value_indices.specs.declared.indices.Indices.{Indices, roll-Indices}
use Rattle.value_indices.specs.declared.indices.Indices.TheFolds.{ind-Reading, map-Indices, map-Reading, para-roll-Indices, para-roll-Reading}
use Rattle.value_indices.specs.declared.indices.Indices.TheOpen as W
use Rattle.value_indices.specs.declared.indices.Indices.TheOpen.{Indices-F, Reading-F}
use Rattle.value_indices.specs.declared.indices.Indices.TheVariants as I
use Rattle.value_indices.specs.declared.indices.Naming.{Naming}
use Rattle.value_indices.specs.declared.indices.Naming.TheVariants as M
use Rattle.value_indices.specs.declared.indices.Reading.{Reading, roll-Reading}
use Rattle.value_indices.specs.declared.indices.Reading.TheVariants as R
use Rattle.value_indices.specs.declared.notes.Fact.{Fact}
use Rattle.value_laws.proofs.Basics.{fronts}
use Rattle.fitting_laws.proofs.Holes.{Full, first_full, first_whole, hole_is, of_full, value_hole_is}
use Rattle.sail_types.specs.Readings.{read_con}
use Rattle.sail_types.specs.Sums.{read}
use Rattle.call_arguments.specs.Holes.{has_hole, type_holed, value_has_hole, value_holed}

-- ---- what a walk gives

abbrev Gives : {A : Type 0} → (A → Type 0) → Walk A → Type 0
Gives P w = (facts : List Fact) (n : ℕ) → P (w facts n).value

gives_back : {A : Type 0} (P : A → Type 0) (a : A) → P a → Gives P (give a)
unfolding give
gives_back P a h facts n = h

gives_then : {A B : Type 0} (P : A → Type 0) (T : B → Type 0) (w : Walk A) (k : A → Walk B) → Gives P w → ((a : A) → P a → Gives T (k a)) → Gives T (bind w k)
unfolding bind
gives_then P T w k h next facts n = next (w facts n).value (h facts n) (w facts n).facts (w facts n).next

behind : {A B : Type 0} (T : B → Type 0) (w : Walk A) (k : A → Walk B) → ((a : A) → Gives T (k a)) → Gives T (bind w k)
unfolding bind
behind T w k next facts n = next (w facts n).value (w facts n).facts (w facts n).next

abbrev Whole : Indices → Type 0
Whole i = value_has_hole i ≡ false

abbrev Wholes : List Indices → Type 0
Wholes is = list_any (λ b. b) (map value_has_hole is) ≡ false

abbrev Opens : Walk Indices → Type 0
Opens w = Gives Whole w

leaf : (i : Indices) (x : Indices-F Indices Reading) → roll-Indices x ≡ i
    → value_holed (map-Indices Indices Reading Bool Bool value_has_hole has_hole x) ≡ false
    → Opens (give i)
leaf i x e h = gives_back Whole i (value_hole_is i x e ∙ h)

-- ---- numbers and truths

truth_any : (name : Naming) → Opens (any_truth name)
unfolding any_truth
truth_any name = behind Whole (fresh_for name) (λ p. give (I.Truth (C.Holds p))) (λ p.
    leaf (I.Truth (C.Holds p)) (W.Truth (C.Holds p)) (I.rolls-Truth (C.Holds p)) refl)

integer_between_whole : (name : Naming) (low high : Option Num) → Opens (integer_between name low high)
unfolding integer_between
integer_between_whole name low high =
    behind Whole (fresh_for name) _ (λ v. behind Whole (assume_if (bound_below low (variable v))) _ (λ x.
    behind Whole (assume_if (bound_above (variable v) high)) (λ y. give (I.Integer (variable v))) (λ y.
    leaf (I.Integer (variable v)) (W.Integer (variable v)) (I.rolls-Integer (variable v)) refl)))

integer_any : (name : Naming) → Opens (any_integer name)
unfolding any_integer
integer_any name = integer_between_whole name (Some least_num) (Some largest_num)

bits_whole : (t : Num) → Opens (bits_of t)
unfolding bits_of
bits_whole t = behind Whole (between zero_num t widest) (λ x. give (I.Bits t)) (λ x. leaf (I.Bits t) (W.Bits t) (I.rolls-Bits t) refl)

vector_whole : (r : Reading) (t : Num) → has_hole r ≡ false → Opens (vector_of r t)
unfolding vector_of
vector_whole r t h = behind Whole (between zero_num t longest) (λ x. give (I.Vector t r)) (λ x. leaf (I.Vector t r) (W.Vector t r) (I.rolls-Vector t r) h)

integer_whole : (tells : Bool) (t : Num) → Opens (integer_of tells t)
unfolding integer_of
integer_whole tells t = by tells (is_constant t)
  where
    there : Opens (give (I.Integer t))
    there = leaf (I.Integer t) (W.Integer t) (I.rolls-Integer t) refl

    by : (s c : Bool)
        → Opens (if s then (if c then give (I.Integer t) else bind (between least_num t largest_num) (λ x. give (I.Integer t))) else give (I.Integer t))
    by false c = there
    by true true = there
    by true false = behind Whole (between least_num t largest_num) (λ x. give (I.Integer t)) (λ x. there)

named_whole : (is : List Index) (u : ℕ) (args : List Index) (qs : List Reading) → Full qs → Opens (named_opened is u args qs)
unfolding named_opened
named_whole is u args qs h = behind Whole (each_read is args) (λ xs. give (I.Named u xs qs)) (λ xs.
    leaf (I.Named u xs qs) (W.Named u xs qs) (I.rolls-Named u xs qs) h)

-- ---- parts

abbrev Each : Bool → List Opening → Type 0
Each tells [] = Unit {0}
Each tells (o ∷ os) = ((name : Naming) → Opens (o tells name)) × Each tells os

parts_whole : (tells : Bool) (os : List Opening) (ns : List Naming) → Each tells os → Gives Wholes (parts_opened tells os ns)
parts_whole tells [] ns h = gives_back Wholes [] refl
parts_whole tells (o ∷ os) [] h =
    gives_then Whole Wholes (o tells M.Unnamed) (λ i. bind (parts_opened tells os []) (λ is. give (i ∷ is))) (h.0 M.Unnamed) (λ i e.
    gives_then Wholes Wholes (parts_opened tells os []) (λ is. give (i ∷ is)) (parts_whole tells os [] h.1) (λ is k.
    gives_back Wholes (i ∷ is) (or_from (value_has_hole i) (list_any (λ b. b) (map value_has_hole is)) e k)))
parts_whole tells (o ∷ os) (name ∷ ns) h =
    gives_then Whole Wholes (o tells name) (λ i. bind (parts_opened tells os ns) (λ is. give (i ∷ is))) (h.0 name) (λ i e.
    gives_then Wholes Wholes (parts_opened tells os ns) (λ is. give (i ∷ is)) (parts_whole tells os ns h.1) (λ is k.
    gives_back Wholes (i ∷ is) (or_from (value_has_hole i) (list_any (λ b. b) (map value_has_hole is)) e k)))

tuple_whole : (tells : Bool) (name : Naming) (os : List Opening) → Each tells os → Opens (tuple_of tells name os)
tuple_whole tells name os h =
    gives_then Wholes Whole (parts_opened tells os (namings_of name)) (λ is. give (I.Tuple is)) (parts_whole tells os (namings_of name) h) (λ is k.
    leaf (I.Tuple is) (W.Tuple is) (I.rolls-Tuple is) k)

-- ---- types

abbrev ReadingWhole : Reading → Type 0
ReadingWhole r = has_hole r ≡ false → (tells : Bool) (name : Naming) → Opens (opening r tells name)

module _ (rs : List Reading) (full : Full rs) (go : (i : ℕ) (r : Reading) → slice_get rs i ≡ Some r → (tells : Bool) (name : Naming)
    → Opens (opening r tells name)) where
  abbrev TypWhole : Typ → Type 0
  TypWhole t = (is : List Index) (tells : Bool) (name : Naming) → Opens (typ_opened (with_openings rs) t is tells name)

  abbrev SuchTyp : Type 0
  SuchTyp = (t : Typ) × TypWhole t

  abbrev typ_form : Typ-F SuchTyp → Typ-F Typ
  typ_form y = map-Typ SuchTyp Typ (λ p. p.0) y

  abbrev types_in : List SuchTyp → List Typ
  types_in ys = map (λ (y : SuchTyp). y.0) ys

  abbrev opened_form : Typ-F Typ → List Index → Bool → Naming → Walk Indices
  opened_form x is tells name =
      form_opened (with_openings rs) rs (map-Typ Typ (Typ × Inside) (λ t. (t, typ_opened (with_openings rs) t)) x) is tells name

  opens_form : (x : Typ-F Typ) (is : List Index) (tells : Bool) (name : Naming)
      → typ_opened (with_openings rs) (roll-Typ x) is tells name ≡ opened_form x is tells name
  unfolding typ_opened
  opens_form x is tells name =
      ap (λ f. f is tells name) (para-roll-Typ Inside (form_opened (with_openings rs) (map (λ (r : Reading × Opening). r.0) (with_openings rs))) x)
      ∙ ap (λ qs. form_opened (with_openings rs) qs (map-Typ Typ (Typ × Inside) (λ t. (t, typ_opened (with_openings rs) t)) x) is tells name)
      (fronts opening rs)

  readings_full : (is : List Index) (ts : List (Typ × Inside)) → Full (readings is rs ts)
  readings_full is [] = refl
  readings_full is (t ∷ ts) =
      or_from (has_hole (R.Of t.0 is rs)) (list_any (λ b. b) (map has_hole (readings is rs ts))) (of_full t.0 is rs full) (readings_full is ts)

  each_typ : (is : List Index) (tells : Bool) (ys : List SuchTyp) → Each tells (openings is (map (λ t. (t, typ_opened (with_openings rs) t)) (types_in ys)))
  each_typ is tells [] = tt
  each_typ is tells (y ∷ ys) = (y.1 is tells, each_typ is tells ys)

  variable_whole : (i : ℕ) (tells : Bool) (name : Naming) (o : Option Reading) → slice_get rs i ≡ o
      → Opens (variable_opened i (option_map (λ r. (r, opening r)) o) tells name)
  variable_whole i tells name None e = leaf (I.Variable i) (W.Variable i) (I.rolls-Variable i) refl
  variable_whole i tells name (Some r) e = go i r e tells name

  truth_form : (is : List Index) (c : Con) → Opens (truth_opened is c)
  unfolding truth_opened
  truth_form is c = behind Whole (truth_or_fresh (read_con is c)) (λ d. give (I.Truth d)) (λ d. leaf (I.Truth d) (W.Truth d) (I.rolls-Truth d) refl)

  bits_form : (is : List Index) (t : Num) → Opens (bits_opened is t)
  unfolding bits_opened
  bits_form is t = behind Whole (number_or_fresh (read is t)) bits_of bits_whole

  integer_form : (is : List Index) (tells : Bool) (t : Num) → Opens (integer_opened is tells t)
  unfolding integer_opened
  integer_form is tells t = behind Whole (number_or_fresh (read is t)) (integer_of tells) (integer_whole tells)

  range_form : (is : List Index) (name : Naming) (t u : Num) → Opens (range_opened is name t u)
  unfolding range_opened
  range_form is name t u = integer_between_whole name (read is t) (read is u)

  vector_form : (is : List Index) (l : Num) (t : Typ) → Opens (vector_opened is rs l t)
  unfolding vector_opened
  vector_form is l t = behind Whole (number_or_fresh (read is l)) (vector_of (R.Of t is rs)) (λ m. vector_whole (R.Of t is rs) m (of_full t is rs full))

  form_whole : (y : Typ-F SuchTyp) (is : List Index) (tells : Bool) (name : Naming) → Opens (opened_form (typ_form y) is tells name)
  form_whole T.Unit is tells name = leaf I.Unit W.Unit I.rolls-Unit refl
  form_whole T.Bool is tells name = truth_any name
  form_whole (T.Truth c) is tells name = truth_form is c
  form_whole T.Bit is tells name = leaf I.Bit W.Bit I.rolls-Bit refl
  form_whole (T.Bits t) is tells name = bits_form is t
  form_whole (T.Int t) is tells name = integer_form is tells t
  form_whole (T.Range t u) is tells name = range_form is name t u
  form_whole T.String is tells name = leaf I.String W.String I.rolls-String refl
  form_whole (T.List y) is tells name = leaf (I.List (R.Of y.0 is rs)) (W.List (R.Of y.0 is rs)) (I.rolls-List (R.Of y.0 is rs)) (of_full y.0 is rs full)
  form_whole (T.Vector l y) is tells name = vector_form is l y.0
  form_whole (T.Tuple ys) is tells name =
      tuple_whole tells name (openings is (map (λ t. (t, typ_opened (with_openings rs) t)) (types_in ys))) (each_typ is tells ys)
  form_whole (T.Named u args ys) is tells name =
      named_whole is u args (readings is rs (map (λ t. (t, typ_opened (with_openings rs) t)) (types_in ys)))
      (readings_full is (map (λ t. (t, typ_opened (with_openings rs) t)) (types_in ys)))
  form_whole (T.Variable i) is tells name =
      subst (λ o. Opens (variable_opened i o tells name)) (sym (slice_get-map (λ r. (r, opening r)) rs i))
      (variable_whole i tells name (slice_get rs i) refl)
  form_whole (T.Exists own c y) is tells name =
      behind Whole (bound_inside own c is) (λ js. typ_opened (with_openings rs) y.0 js true name) (λ js. y.1 js true name)

  typ_whole : (t : Typ) → TypWhole t
  typ_whole = ind-Typ TypWhole (λ e y same_form. subst (λ d. TypWhole (roll-Typ d)) same_form (λ is tells name.
      subst Opens (sym (opens_form (typ_form y) is tells name)) (form_whole y is tells name)))

-- ---- widened types, and types of the walk

abbrev WideWhole : Indices → Type 0
WideWhole i = value_has_hole i ≡ false → (name : Naming) → Opens (wide_opening i false name)

abbrev Wide : Type 0
Wide = (i : Indices) × WideWhole i

abbrev Known : Type 0
Known = (r : Reading) × ReadingWhole r

abbrev indices_of : Indices-F Wide Known → Indices-F Indices Reading
indices_of y = map-Indices Wide Known Indices Reading (λ p. p.0) (λ p. p.0) y

abbrev reading_in : Reading-F Wide Known → Reading-F Indices Reading
reading_in y = map-Reading Wide Known Indices Reading (λ p. p.0) (λ p. p.0) y

abbrev wide_form : Indices-F Indices Reading → Naming → Walk Indices
wide_form x name =
    widened_opened (map-Indices Indices Reading (Indices × Opening) (Reading × Opening) (λ i. (i, wide_opening i)) (λ r. (r, opening r)) x) false name

widens_form : (x : Indices-F Indices Reading) (name : Naming) → wide_opening (roll-Indices x) false name ≡ wide_form x name
unfolding wide_opening opening
widens_form x name = ap (λ o. o false name) (para-roll-Indices Opening Opening widened_opened reading_opened x)

abbrev reading_form : Reading-F Indices Reading → Bool → Naming → Walk Indices
reading_form x tells name =
    reading_opened (map-Reading Indices Reading (Indices × Opening) (Reading × Opening) (λ i. (i, wide_opening i)) (λ r. (r, opening r)) x) tells name

opens_reading : (x : Reading-F Indices Reading) (tells : Bool) (name : Naming) → opening (roll-Reading x) tells name ≡ reading_form x tells name
unfolding wide_opening opening
opens_reading x tells name = ap (λ o. o tells name) (para-roll-Reading Opening Opening widened_opened reading_opened x)

abbrev bare : List Wide → List Indices
bare ys = map (λ (y : Wide). y.0) ys

abbrev readings_in : List Known → List Reading
readings_in ys = map (λ (y : Known). y.0) ys

each_wide : (ys : List Wide) → Wholes (bare ys) → Each false (map (λ (p : Indices × Opening). p.1) (map (λ i. (i, wide_opening i)) (bare ys)))
each_wide [] h = tt
each_wide (y ∷ ys) h = let k = first_whole y.0 (bare ys) h in (y.1 k.0, each_wide ys k.1)

each_known : (tells : Bool) (ys : List Known) → Full (readings_in ys)
    → Each tells (map (λ (p : Reading × Opening). p.1) (map (λ r. (r, opening r)) (readings_in ys)))
each_known tells [] h = tt
each_known tells (y ∷ ys) h = let k = first_full y.0 (readings_in ys) h in (y.1 k.0 tells, each_known tells ys k.1)

no_such : {A : Type 0} {r : Reading} → None ≡ Some r → A
no_such e = absurd (cc)

known_at : (ys : List Known) → Full (readings_in ys) → (i : ℕ) (r : Reading) → slice_get (readings_in ys) i ≡ Some r → (tells : Bool) (name : Naming)
    → Opens (opening r tells name)
known_at [] h i r e = no_such e
known_at (y ∷ ys) h zero r e = subst (λ q. (tells : Bool) (name : Naming)
    → Opens (opening q tells name)) (some_same y.0 r e) (y.1 (first_full y.0 (readings_in ys) h).0)
known_at (y ∷ ys) h (suc i) r e = known_at ys (first_full y.0 (readings_in ys) h).1 i r e

form_wide : (y : Indices-F Wide Known) (name : Naming) → value_holed (map-Indices Indices Reading Bool Bool value_has_hole has_hole (indices_of y)) ≡ false
    → Opens (wide_form (indices_of y) name)
form_wide W.Never name h = leaf I.Never W.Never I.rolls-Never refl
form_wide W.Unit name h = leaf I.Unit W.Unit I.rolls-Unit refl
form_wide (W.Truth c) name h = truth_any name
form_wide W.Bit name h = leaf I.Bit W.Bit I.rolls-Bit refl
form_wide (W.Bits t) name h = bits_whole t
form_wide (W.Integer t) name h = integer_any name
form_wide W.String name h = leaf I.String W.String I.rolls-String refl
form_wide (W.List r) name h = leaf (I.List r.0) (W.List r.0) (I.rolls-List r.0) h
form_wide (W.Vector t r) name h = vector_whole r.0 t h
form_wide (W.Tuple ys) name h =
    tuple_whole false name (map (λ (p : Indices × Opening). p.1) (map (λ i. (i, wide_opening i)) (bare ys))) (each_wide ys h)
form_wide (W.Named u is rs) name h =
    let qs : List Reading = map (λ (r : Reading × Opening). r.0) (map (λ r. (r, opening r)) (readings_in rs)) in
    leaf (I.Named u is qs) (W.Named u is qs) (I.rolls-Named u is qs) (subst Full (sym (fronts opening (readings_in rs))) h)
form_wide (W.Variable i) name h = leaf (I.Variable i) (W.Variable i) (I.rolls-Variable i) refl

form_reading : (y : Reading-F Wide Known) (tells : Bool) (name : Naming)
    → type_holed (map-Reading Indices Reading Bool Bool value_has_hole has_hole (reading_in y)) ≡ false → Opens (reading_form (reading_in y) tells name)
form_reading (W.Of t is ys) tells name h = typ_whole (readings_in ys) h (known_at ys h) t is tells name
form_reading (W.Widened y) tells name h = y.1 h name
form_reading (W.Parts ys) tells name h =
    tuple_whole tells name (map (λ (p : Reading × Opening). p.1) (map (λ r. (r, opening r)) (readings_in ys))) (each_known tells ys h)
form_reading W.Hole tells name h = absurd (cc)

reading_whole : (r : Reading) → ReadingWhole r
reading_whole = ind-Reading WideWhole ReadingWhole
    (λ e y same_form. subst (λ d. WideWhole (roll-Indices d)) same_form (λ h name.
    subst Opens (sym (widens_form (indices_of y) name))
    (form_wide y name (sym (value_hole_is (roll-Indices (indices_of y)) (indices_of y) refl) ∙ h))))
    (λ e y same_form. subst (λ d. ReadingWhole (roll-Reading d)) same_form (λ h tells name.
    subst Opens (sym (opens_reading (reading_in y) tells name))
    (form_reading y tells name (sym (hole_is (roll-Reading (reading_in y)) (reading_in y) refl) ∙ h))))

pub opened_whole : (r : Reading) → has_hole r ≡ false → (tells : Bool) (name : Naming) (facts : List Fact) (n : ℕ)
    → value_has_hole (opening r tells name facts n).value ≡ false
opened_whole r h tells name facts n = reading_whole r h tells name facts n
