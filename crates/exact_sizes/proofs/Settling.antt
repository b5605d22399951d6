-- The sizes of a type stay what they are where a value of it is opened.
use Rattle.std.proofs.Common.{◌≡◌, ◌∙◌, ap, sym, refl, subst, ℕ, zero, suc, ℤ, Bool, true, List, [], ◌∷◌, map, length, slice_get}
use Rattle.std.specs.Prelude.{Option, Some, None, option_map}
use Rattle.std.proofs.lemmas.Bool.{and_parts}
use Rattle.std.proofs.lemmas.Bool.Decides.{Decides-int_eq}
use Rattle.sail_types.specs.Sums.{and_then, number_at, read, variable}
use Rattle.sail_types.specs.Zero.{deepest}
use Rattle.sail_types.specs.declared.numbers.Index.{Index}
use Rattle.sail_types.specs.declared.numbers.Index.TheVariants as N
use Rattle.sail_types.specs.declared.numbers.Num.{Num}
use Rattle.sail_types.specs.declared.table.Types.{Types}
use Rattle.sail_types.specs.declared.types.Typ.{Typ, Typ-F, out-Typ, roll-Typ}
use Rattle.sail_types.specs.declared.types.Typ.TheOpen as T
use Rattle.sail_types.specs.declared.types.Typ.TheViews.{roll-out-Typ}
use Rattle.sail_types.specs.declared.types.Typ.TheVariants as U
use Rattle.sail_types.proofs.SumNumbers.{then_parts}
use Rattle.value_indices.specs.declared.indices.Indices.{Indices, fold-Indices}
use Rattle.value_indices.specs.declared.indices.Indices.TheFolds.{fold-roll-Reading, ind-Reading, map-Reading}
use Rattle.value_indices.specs.declared.indices.Indices.TheOpen as W
use Rattle.value_indices.specs.declared.indices.Indices.TheOpen.{Reading-F}
use Rattle.value_indices.specs.declared.indices.Reading.{Reading, roll-Reading}
use Rattle.value_indices.specs.declared.indices.Reading.TheVariants as R
use Rattle.value_laws.proofs.Basics.{no}
use Rattle.size_values.specs.declared.constants.Constant.{Constant}
use Rattle.size_values.specs.declared.constants.Constant.TheVariants as C
use Rattle.size_values.specs.declared.sized.Sized.{Sized}
use Rattle.size_values.specs.Numbers.{argument_of, index_under, number_in, value_of}
use Rattle.size_values.specs.Sized.{hangs_on, integer_of}
use Rattle.size_laws.specs.Known.{all_numbers}
use Rattle.size_laws.specs.Settled.{AreAlike, IsAlike, Says, SaysArgument, SaysArguments, Settled, constants, of_reading, of_readings, of_type, of_types}
use Rattle.size_laws.specs.Settled.{bit, bits, bool, exists, found, hole, int, list, more_readings, more_types, named, no_readings, no_types}
use Rattle.size_laws.specs.Settled.{own_variable, parts, range, stood, string, truth, tuple, typ_of, unit, vector, widened}
use Rattle.told_sizes.specs.Exact.{Opened, all_of, all_pass, all_settle, are_said, exact_constants, form_settles, is_one_of, is_said, is_said_index}
use Rattle.told_sizes.specs.Exact.{is_same, no_test, only_if, or_own, reading_settles, readings_settle, typ_passes, typ_settles}
use Rattle.exact_sizes.specs.Laws.{More, Stands, TypesSettle}
use Rattle.exact_sizes.proofs.Known.{none, number_more, substituted_same}
use Rattle.exact_sizes.proofs.Alike.{Grows, exact_grows, grows_under, typ_same, where_hangs}

-- two that are there and the same
same_parts : (o p : Option ℤ) → is_same o p ≡ true → (z : ℤ) × (o ≡ Some z) × (p ≡ Some z)
same_parts None p h = no h
same_parts (Some x) None h = no h
same_parts (Some x) (Some y) h = (x, refl, ap (λ (k : ℤ). Some k) (sym ((Decides-int_eq x y).0 h)))

-- where it is certain what a variable is, these stand for it
abbrev pub Stays : List Constant → List Index → List Index → Type 0
Stays cs is js = (i : ℕ) (z : ℤ) → number_in (argument_of cs i) ≡ Some z → number_at is i ≡ number_at js i

pub stays_under : (name : List ℕ) (a b : Index) (cs : List Constant) (is js : List Index) → Stays cs is js → Stays (C.Bound name ∷ cs) (a ∷ is) (b ∷ js)
stays_under name a b cs is js s zero z h = none h
stays_under name a b cs is js s (suc i) z h = s i z h

module _ (types : Types) (own : List Sized) (own_count : ℕ) (f : ℕ → ℤ) (of : ℕ → Constant) (stands : Stands of f) where
  abbrev to : ℕ → Constant
  to = all_numbers f

  more : More of to
  more i z h = ap (λ (x : ℤ). Some x) (stands i z h)

  -- ---- sizes

  pub says : (cs ds : List Constant) (is js : List Index) → Grows cs ds → Stays cs is js → (t : Num) → is_said of is cs t ≡ true → Says types own to js ds t
  says cs ds is js g s t h =
      let both = same_parts (and_then (read is t) (value_of of)) (value_of (argument_of cs) t) h in
      let p = then_parts (read is t) (value_of of) both.0 both.1 in
      let still : read is t ≡ read js t = substituted_same (argument_of cs) (number_at is) (number_at js) s t both.0 both.2 in
      record {
        said = p.0;
        is_said = sym still ∙ p.1;
        same = ap integer_of (number_more of to more p.0 both.0 p.2) ∙ sym (ap integer_of (number_more (argument_of cs) (argument_of ds) g t both.0 both.2));
      }

  says_argument : (cs ds : List Constant) (is js : List Index) → Grows cs ds → Stays cs is js → (a : Index) → is_said_index of is cs a ≡ true
      → SaysArgument types own to js ds a
  says_argument cs ds is js g s (N.Number t) h =
      let k = says cs ds is js g s t h in
      record { said = N.Number k.said; is_said = ap (λ (o : Option Num). option_map N.Number o) k.is_said; same = k.same }
  says_argument cs ds is js g s (N.Truth c) h = no h

  say_arguments : (cs ds : List Constant) (is js : List Index) → Grows cs ds → Stays cs is js → (u n k : ℕ) (args : List Index)
      → are_said types of u n k is cs args ≡ true → SaysArguments types own to u n k js ds args
  say_arguments cs ds is js g s u n k [] h = tt
  say_arguments cs ds is js g s u n k (a ∷ args) h =
      let p = and_parts (only_if (hangs_on types u n k) (is_said_index of is cs a)) (are_said types of u n (suc k) is cs args) h in (
        λ e. says_argument cs ds is js g s a (where_hangs (hangs_on types u n k) (is_said_index of is cs a) p.0 e),
        say_arguments cs ds is js g s u n (suc k) args p.1,
      )

  -- ---- types

  module _ (rs : List Reading) (n : ℕ)
      (found_at : (i : ℕ) → is_one_of i n ≡ true → (js : List Index) (ds : List Constant) → Settled types own to (of_type rs js ds (U.Variable i))) where
    alike : (depth : ℕ) (cs ds : List Constant) (js : List Index) → Grows cs ds → Grows cs (constants types own to js) → (t : Typ)
        → typ_passes types depth t [] n cs ≡ true → IsAlike types own to rs js ds t
    alike depth cs ds js g k t h =
        sym (typ_same types (stood types own to rs) depth t [] n cs ds g h)
        ∙ typ_same types (stood types own to rs) depth t [] n cs (constants types own to js) k h

    all_alike : (depth : ℕ) (cs ds : List Constant) (js : List Index) → Grows cs ds → Grows cs (constants types own to js) → (ts : List Typ)
        → all_pass (typ_passes types depth) ts [] n cs ≡ true → AreAlike types own to rs js ds ts
    all_alike depth cs ds js g k [] h = tt
    all_alike depth cs ds js g k (t ∷ ts) h =
        let p = and_parts (typ_passes types depth t [] n cs) (all_pass (typ_passes types depth) ts [] n cs) h in
        (alike depth cs ds js g k t p.0, all_alike depth cs ds js g k ts p.1)

    abbrev Settles : (Typ → Opened) → Type 0
    Settles test = (t : Typ) (cs ds : List Constant) (is js : List Index) → Grows cs ds → Grows cs (constants types own to js) → Stays cs is js
        → test t n is cs ≡ true → Settled types own to (of_type rs js ds t)

    all_settled : (test : Typ → Opened) → Settles test → (ts : List Typ) (cs ds : List Constant) (is js : List Index) → Grows cs ds
        → Grows cs (constants types own to js) → Stays cs is js → all_settle test ts n is cs ≡ true → Settled types own to (of_types rs js ds ts)
    all_settled test settles [] cs ds is js g k s h = no_types rs js ds
    all_settled test settles (t ∷ ts) cs ds is js g k s h =
        let p = and_parts (test t n is cs) (all_settle test ts n is cs) h in
        more_types rs js ds t ts (settles t cs ds is js g k s p.0) (all_settled test settles ts cs ds is js g k s p.1)

    form_settled : (depth : ℕ) → Settles (typ_settles types of depth) → (x : Typ-F Typ) (t : Typ) → roll-Typ x ≡ t → (cs ds : List Constant)
        (is js : List Index) → Grows cs ds → Grows cs (constants types own to js) → Stays cs is js
        → form_settles types of (typ_passes types depth) (typ_settles types of depth) x n is cs ≡ true → Settled types own to (of_type rs js ds t)
    form_settled depth settles T.Unit t e cs ds is js g k s h =
        subst (λ (d : Typ). Settled types own to (of_type rs js ds d)) (sym U.rolls-Unit ∙ e) (unit rs js ds)
    form_settled depth settles T.Bool t e cs ds is js g k s h =
        subst (λ (d : Typ). Settled types own to (of_type rs js ds d)) (sym U.rolls-Bool ∙ e) (bool rs js ds)
    form_settled depth settles (T.Truth c) t e cs ds is js g k s h =
        subst (λ (d : Typ). Settled types own to (of_type rs js ds d)) (sym (U.rolls-Truth c) ∙ e) (truth rs js ds c)
    form_settled depth settles T.Bit t e cs ds is js g k s h =
        subst (λ (d : Typ). Settled types own to (of_type rs js ds d)) (sym U.rolls-Bit ∙ e) (bit rs js ds)
    form_settled depth settles (T.Bits m) t e cs ds is js g k s h =
        subst (λ (d : Typ). Settled types own to (of_type rs js ds d)) (sym (U.rolls-Bits m) ∙ e) (bits rs js ds m (says cs ds is js g s m h))
    form_settled depth settles (T.Int m) t e cs ds is js g k s h =
        subst (λ (d : Typ). Settled types own to (of_type rs js ds d)) (sym (U.rolls-Int m) ∙ e) (int rs js ds m)
    form_settled depth settles (T.Range m l) t e cs ds is js g k s h =
        subst (λ (d : Typ). Settled types own to (of_type rs js ds d)) (sym (U.rolls-Range m l) ∙ e) (range rs js ds m l)
    form_settled depth settles T.String t e cs ds is js g k s h =
        subst (λ (d : Typ). Settled types own to (of_type rs js ds d)) (sym U.rolls-String ∙ e) (string rs js ds)
    form_settled depth settles (T.List a) t e cs ds is js g k s h =
        subst (λ (d : Typ). Settled types own to (of_type rs js ds d)) (sym (U.rolls-List a) ∙ e) (list rs js ds a (alike depth cs ds js g k a h))
    form_settled depth settles (T.Vector m a) t e cs ds is js g k s h =
        let p = and_parts (is_said of is cs m) (typ_passes types depth a [] n cs) h in
        subst (λ (d : Typ). Settled types own to (of_type rs js ds d)) (sym (U.rolls-Vector m a) ∙ e)
        (vector rs js ds m a (says cs ds is js g s m p.0) (alike depth cs ds js g k a p.1))
    form_settled depth settles (T.Tuple ts) t e cs ds is js g k s h =
        subst (λ (d : Typ). Settled types own to (of_type rs js ds d)) (sym (U.rolls-Tuple ts) ∙ e)
        (tuple rs js ds ts (all_settled (typ_settles types of depth) settles ts cs ds is js g k s h))
    form_settled depth settles (T.Named u args ts) t e cs ds is js g k s h =
        let p = and_parts (are_said types of u (length args) 0 is cs args) (all_pass (typ_passes types depth) ts [] n cs) h in
        subst (λ (d : Typ). Settled types own to (of_type rs js ds d)) (sym (U.rolls-Named u args ts) ∙ e)
        (named rs js ds u args ts (say_arguments cs ds is js g s u (length args) 0 args p.0) (all_alike depth cs ds js g k ts p.1))
    form_settled depth settles (T.Variable i) t e cs ds is js g k s h =
        subst (λ (d : Typ). Settled types own to (of_type rs js ds d)) (sym (U.rolls-Variable i) ∙ e) (found_at i h js ds)
    form_settled depth settles (T.Exists name c a) t e cs ds is js g k s h =
        subst (λ (d : Typ). Settled types own to (of_type rs js ds d)) (sym (U.rolls-Exists name c a) ∙ e)
        (exists rs js ds name c a (λ v.
        settles a (C.Bound name ∷ cs) (C.Bound name ∷ ds) (N.Number (variable 0) ∷ is) (N.Number (variable v) ∷ js)
        (grows_under name (C.Bound name) cs ds g) (grows_under name (index_under to (N.Number (variable v))) cs (constants types own to js) k)
        (stays_under name (N.Number (variable 0)) (N.Number (variable v)) cs is js s) h))

    pub typ_settled : (depth : ℕ) → Settles (typ_settles types of depth)
    typ_settled zero t cs ds is js g k s h = no h
    typ_settled (suc depth) t cs ds is js g k s h =
        form_settled depth (typ_settled depth) (out-Typ t) t (roll-out-Typ t) cs ds is js g k s h

  -- ---- types of the walk

  abbrev SettlesR : Reading → Type 0
  SettlesR r = reading_settles types own_count of r ≡ true → Settled types own to (of_reading r)

  abbrev SuchI : Type 0
  SuchI = Indices × Unit {0}

  abbrev SuchR : Type 0
  SuchR = (r : Reading) × SettlesR r

  abbrev reading_in : Reading-F SuchI SuchR → Reading-F Indices Reading
  reading_in y = map-Reading SuchI SuchR Indices Reading (λ p. p.0) (λ p. p.0) y

  abbrev readings : List SuchR → List Reading
  readings ys = map (λ (p : SuchR). p.0) ys

  abbrev all_settle_there : List SuchR → Bool
  all_settle_there ys = all_of (map (reading_settles types own_count of) (readings ys))

  each_settled : (ys : List SuchR) → all_settle_there ys ≡ true → Settled types own to (of_readings (readings ys))
  each_settled [] h = no_readings
  each_settled (y ∷ ys) h =
      let p = and_parts (reading_settles types own_count of y.0) (all_settle_there ys) h in
      more_readings y.0 (readings ys) (y.1 p.0) (each_settled ys p.1)

  found_there : (ys : List SuchR) → all_settle_there ys ≡ true → (i : ℕ) → is_one_of i (length (map (reading_settles types own_count of) (readings ys))) ≡ true
      → (r : Reading) × (slice_get (readings ys) i ≡ Some r) × Settled types own to (of_reading r)
  found_there [] h i k = no k
  found_there (y ∷ ys) h zero k = (y.0, refl, y.1 (and_parts (reading_settles types own_count of y.0) (all_settle_there ys) h).0)
  found_there (y ∷ ys) h (suc i) k = found_there ys (and_parts (reading_settles types own_count of y.0) (all_settle_there ys) h).1 i k

  -- one of the type, or of the function at work
  variable_there : (ys : List SuchR) → all_settle_there ys ≡ true → (i : ℕ)
      → is_one_of i (or_own own_count (length (map (reading_settles types own_count of) (readings ys)))) ≡ true → (js : List Index) (ds : List Constant)
      → Settled types own to (of_type (readings ys) js ds (U.Variable i))
  variable_there [] h i k js ds = own_variable [] js ds i refl refl
  variable_there (y ∷ ys) h i k js ds =
      let r = found_there (y ∷ ys) h i k in
      found (readings (y ∷ ys)) js ds i r.0 r.1 r.2

  abbrev value_settles : Indices → Bool
  value_settles = fold-Indices Bool Bool no_test (readings_settle types own_count of)

  abbrev tests_of : Reading-F Indices Reading → Reading-F Bool Bool
  tests_of x = map-Reading Indices Reading Bool Bool value_settles (reading_settles types own_count of) x

  settles_form : (x : Reading-F Indices Reading) → reading_settles types own_count of (roll-Reading x) ≡ readings_settle types own_count of (tests_of x)
  settles_form x = fold-roll-Reading Bool Bool no_test (readings_settle types own_count of) x

  form_of_settles : (y : Reading-F SuchI SuchR) (r : Reading) → roll-Reading (reading_in y) ≡ r
      → readings_settle types own_count of (tests_of (reading_in y)) ≡ true
      → Settled types own to (of_reading r)
  form_of_settles (W.Of t is rs) r e h =
      let n = or_own own_count (length (map (reading_settles types own_count of) (readings rs))) in
      let p = and_parts (all_settle_there rs) (typ_settles types of deepest t n is (exact_constants of is)) h in
      subst (λ (d : Reading). Settled types own to (of_reading d)) (sym (R.rolls-Of t is (readings rs)) ∙ e)
      (typ_of t is (readings rs)
      (typ_settled (readings rs) n (variable_there rs p.0) deepest t (exact_constants of is) (constants types own to is) is is (exact_grows of to more is)
      (exact_grows of to more is) (λ i z k. refl) p.1))
  form_of_settles (W.Widened i) r e h =
      subst (λ (d : Reading). Settled types own to (of_reading d)) (sym (R.rolls-Widened i.0) ∙ e) (widened i.0)
  form_of_settles (W.Parts rs) r e h =
      subst (λ (d : Reading). Settled types own to (of_reading d)) (sym (R.rolls-Parts (readings rs)) ∙ e) (parts (readings rs) (each_settled rs h))
  form_of_settles W.Hole r e h = subst (λ (d : Reading). Settled types own to (of_reading d)) (sym R.rolls-Hole ∙ e) hole

  rolled_settles : (y : Reading-F SuchI SuchR) → SettlesR (roll-Reading (reading_in y))
  rolled_settles y h = form_of_settles y (roll-Reading (reading_in y)) refl (sym (settles_form (reading_in y)) ∙ h)

  pub reading_settled : (r : Reading) → SettlesR r
  reading_settled = ind-Reading (λ i. Unit {0}) SettlesR (λ e y is. tt) (λ e y is. subst (λ d. SettlesR (roll-Reading d)) is (rolled_settles y))

pub types_settle : TypesSettle
types_settle types own m f of stands r h = reading_settled types own m f of stands r h
