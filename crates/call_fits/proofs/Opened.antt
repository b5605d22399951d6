-- What a type is opened to is the same under other integers, where the type is, and the variables that the walk takes stand for the same.
use Rattle.std.proofs.Common.{◌≡◌, ℕ, zero, suc, ◌≤◌, int_le, pos, Bool, true, false, List, [], ◌∷◌, map, slice_get, Option, Some, None, if◌then◌else◌}
use Rattle.std.proofs.Common.{refl, sym, ap, ◌∙◌, subst, arith}
use Rattle.sail_types.specs.Belongs.{Reading as Closed, reading, under}
use Rattle.sail_types.specs.Numbers.{Assignment, Positive, number}
use Rattle.sail_types.specs.Readings.{read_con, read_index}
use Rattle.sail_types.specs.Sums.{constant, is_constant, read, variable}
use Rattle.sail_types.specs.declared.numbers.Con.{Con}
use Rattle.sail_types.specs.declared.numbers.Con.TheVariants as C
use Rattle.sail_types.specs.declared.numbers.Index.{Index}
use Rattle.sail_types.specs.declared.numbers.Index.TheVariants as N
use Rattle.sail_types.specs.declared.numbers.Num.{Num}
use Rattle.sail_types.specs.declared.table.Types.{Types}
use Rattle.sail_types.specs.declared.types.Typ.{Typ, Typ-F, roll-Typ}
use Rattle.sail_types.specs.declared.types.Typ.TheFolds.{para-roll-Typ, map-Typ, ind-Typ}
use Rattle.sail_types.specs.declared.types.Typ.TheOpen as T
use Rattle.sail_types.specs.declared.types.Typ.TheVariants as U
use Rattle.value_indices.specs.declared.indices.Indices.{Indices, roll-Indices}
use Rattle.value_indices.specs.declared.indices.Indices.TheFolds.{para-roll-Indices, para-roll-Reading, map-Indices, map-Reading, ind-Reading}
use Rattle.value_indices.specs.declared.indices.Indices.TheOpen as W
use Rattle.value_indices.specs.declared.indices.Indices.TheOpen.{Indices-F, Reading-F}
use Rattle.value_indices.specs.declared.indices.Indices.TheVariants as I
use Rattle.value_indices.specs.declared.indices.Naming.{Naming, Naming-F, out-Naming}
use Rattle.value_indices.specs.declared.indices.Naming.TheVariants as M
use Rattle.value_indices.specs.declared.indices.Naming.TheOpen as G
use Rattle.value_indices.specs.declared.indices.Reading.{Reading, roll-Reading}
use Rattle.value_indices.specs.declared.indices.Reading.TheVariants as R
use Rattle.value_indices.specs.declared.notes.Fact.{Fact}
use Rattle.value_indices.specs.Steps.{Walk, bind, give, assume, assume_if, fresh, fresh_named, each}
use Rattle.value_indices.specs.Opening.{between, fresh_integer, number_or_fresh, truth_or_fresh, index_or_fresh, read_or_fresh, each_read}
use Rattle.value_indices.specs.Opening.{named_form, fresh_for, namings_of, integer_between, any_integer, any_truth, least_num, largest_num}
use Rattle.value_indices.specs.Opening.{bits_of, vector_of, integer_of, Opening, Inner, parts_opened, tuple_of, variable_opened}
use Rattle.value_indices.specs.Opening.{truth_opened, bits_opened, integer_opened, range_opened, vector_opened, named_opened, bound_inside, form_opened}
use Rattle.value_indices.specs.Opening.{widened_opened, typ_opened, reading_opened, opening, wide_opening, with_openings, opened}
use Rattle.value_laws.specs.Belonging.{Integers, Meant, standing, nowhere, closeds, index_there, meant, closed, or_no_value, types_or_own}
use Rattle.value_laws.specs.Belonging.{plain, wides, type_variables}
use Rattle.value_laws.specs.Belonging as Means
use Rattle.value_laws.proofs.Arguments.{under_these}
use Rattle.value_laws.proofs.Basics.{fronts}
use Rattle.value_laws.proofs.Numbers.{holds_is, index_read, number_read, variable_is}
use Rattle.value_laws.proofs.Opening.{closed_of, cons_same, same_lists, stood}
use Rattle.value_laws.proofs.Values.{closed_is, closing, meant_is}
use Rattle.fitting_laws.proofs.Counting.{le_self}
use Rattle.fitting_laws.proofs.Standing.{assignment_part, readings_part, under_number, wide_at}

module _ (types : Types) (past : Positive) (own : List Closed) (g k : Integers) (start : ℕ) (same : (i : ℕ) → start ≤ i → g i ≡ k i) where
  abbrev there : Integers → Assignment
  there h = standing past h

  abbrev pub type_at : Integers → Reading → Closed
  type_at h r = closed types (there h) own r

  abbrev types_at : Integers → List Reading → List Closed
  types_at h rs = map (type_at h) rs

  abbrev pub wide_value_at : Integers → Indices → Closed
  wide_value_at h i = (meant types (there h) own i).wide

  -- what it gives is so, where its variables are counted from there on, and it counts on
  record Gives {A : Type 0} (walk : Walk A) (Holds : A → Type 0) : Type 0 where
    pub holds : (facts : List Fact) (n : ℕ) → start ≤ n → Holds (walk facts n).value
    pub onward : (facts : List Fact) (n : ℕ) → start ≤ n → start ≤ (walk facts n).next

  -- ---- steps

  give_gives : {A : Type 0} {Holds : A → Type 0} (x : A) → Holds x → Gives (give x) Holds
  unfolding give
  give_gives x h = record { holds = λ facts n l. h; onward = λ facts n l. l }

  bind_gives : {A B : Type 0} {Holds : A → Type 0} {Then : B → Type 0} (w : Walk A) (c : A → Walk B) → Gives w Holds
      → ((x : A) → Holds x → Gives (c x) Then) → Gives (bind w c) Then
  unfolding bind
  bind_gives w c first more = record {
    holds = λ facts n l.
        (more (w facts n).value (first.holds facts n l)).holds (w facts n).facts (w facts n).next (first.onward facts n l);
    onward = λ facts n l.
        (more (w facts n).value (first.holds facts n l)).onward (w facts n).facts (w facts n).next (first.onward facts n l);
  }

  abbrev Any : {A : Type 0} → A → Type 0
  Any x = Unit {0}

  assume_gives : (c : Con) → Gives (assume c) Any
  unfolding assume
  assume_gives c = record { holds = λ facts n l. tt; onward = λ facts n l. l }

  assume_if_gives : (o : Option Con) → Gives (assume_if o) Any
  assume_if_gives None = give_gives tt tt
  assume_if_gives (Some c) = assume_gives c

  next_above : (n : ℕ) → start ≤ n → start ≤ suc n
  next_above n l = omega (arith, l)

  -- a variable that stands for the same
  abbrev Same : ℕ → Type 0
  Same v = g v ≡ k v

  fresh_gives : Gives fresh Same
  unfolding fresh
  fresh_gives = record { holds = λ facts n l. same n l; onward = λ facts n l. next_above n l }

  fresh_named_gives : (name : List ℕ) → Gives (fresh_named name) Same
  unfolding fresh_named
  fresh_named_gives name = record { holds = λ facts n l. same n l; onward = λ facts n l. next_above n l }

  each_gives : {A B : Type 0} (f : A → Walk B) (Holds : A → B → Type 0) (All : List A → List B → Type 0) → All [] []
      → ((x : A) (y : B) (xs : List A) (ys : List B) → Holds x y → All xs ys → All (x ∷ xs) (y ∷ ys))
      → ((x : A) → Gives (f x) (Holds x)) → (xs : List A) → Gives (each f xs) (All xs)
  each_gives f Holds All none cons one [] = give_gives [] none
  each_gives f Holds All none cons one (x ∷ xs) =
      bind_gives (f x) _ (one x) (λ y h. bind_gives (each f xs) _ (each_gives f Holds All none cons one xs) (λ ys hs.
      give_gives (y ∷ ys) (cons x y xs ys h hs)))

  -- ---- numbers and truths

  between_gives : (low t high : Num) → Gives (between low t high) Any
  unfolding between
  between_gives low t high = bind_gives _ _ (assume_gives _) (λ x h. assume_gives _)

  abbrev SameNumber : Num → Type 0
  SameNumber t = number (there g) t ≡ number (there k) t

  variable_same : (v : ℕ) → Same v → SameNumber (variable v)
  variable_same v h = variable_is past g v ∙ h ∙ sym (variable_is past k v)

  number_gives : (o : Option Num) → ((t : Num) → o ≡ Some t → SameNumber t) → Gives (number_or_fresh o) SameNumber
  unfolding number_or_fresh fresh_integer
  number_gives (Some t) h = give_gives t (h t refl)
  number_gives None h =
      bind_gives _ _ fresh_gives (λ v e. bind_gives _ _ (between_gives least_num (variable v) largest_num) (λ x d.
      give_gives (variable v) (variable_same v e)))

  truth_gives : (o : Option Con) → Gives (truth_or_fresh o) Any
  unfolding truth_or_fresh
  truth_gives (Some c) = give_gives c tt
  truth_gives None = bind_gives _ _ fresh_gives (λ v e. give_gives (C.Holds v) tt)

  naming_gives : (x : Naming-F Naming) → Gives (named_form x) Same
  naming_gives (G.Named name) = fresh_named_gives name
  naming_gives x = fresh_gives

  -- ---- values: what they widen to is the same

  abbrev pub SameWide : Indices → Type 0
  SameWide i = wide_value_at g i ≡ wide_value_at k i

  wide_is : (h : Integers) (i : Indices) (x : Indices-F Indices Reading) → roll-Indices x ≡ i → wide_value_at h i ≡ wide_at types past own h x
  wide_is h i x e = ap (λ (m : Meant). m.wide) (meant_is types (there h) own i x e)

  by_form : (i : Indices) (x : Indices-F Indices Reading) → roll-Indices x ≡ i → wide_at types past own g x ≡ wide_at types past own k x → SameWide i
  by_form i x e d = wide_is g i x e ∙ d ∙ sym (wide_is k i x e)

  bits_same : (t : Num) → SameNumber t → SameWide (I.Bits t)
  bits_same t h = by_form (I.Bits t) (W.Bits t) (I.rolls-Bits t) (λ j. plain (there g) (U.Bits (constant (h j))) [])

  list_same : (r : Reading) → type_at g r ≡ type_at k r → SameWide (I.List r)
  list_same r h =
      by_form (I.List r) (W.List r) (I.rolls-List r) (λ j. reading (U.List (U.Variable 0)) (nowhere (there g)) (closeds (h j ∷ [])))

  vector_same : (t : Num) (r : Reading) → SameNumber t → type_at g r ≡ type_at k r → SameWide (I.Vector t r)
  vector_same t r e h =
      by_form (I.Vector t r) (W.Vector t r) (I.rolls-Vector t r)
      (λ j. reading (U.Vector (constant (e j)) (U.Variable 0)) (nowhere (there g)) (closeds (h j ∷ [])))

  abbrev wides_of_at : Integers → List Indices → List Closed
  wides_of_at h is = wides (map (meant types (there h) own) is)

  tuple_same : (is : List Indices) → wides_of_at g is ≡ wides_of_at k is → SameWide (I.Tuple is)
  tuple_same is h = by_form (I.Tuple is) (W.Tuple is) (I.rolls-Tuple is) (λ j. Means.tuple_of (there g) (h j))

  named_same : (u : ℕ) (is : List Index) (rs : List Reading) → map (index_there (there g)) is ≡ map (index_there (there k)) is
      → types_at g rs ≡ types_at k rs → SameWide (I.Named u is rs)
  named_same u is rs e h =
      by_form (I.Named u is rs) (W.Named u is rs) (I.rolls-Named u is rs)
      (λ j. reading (U.Named u (e j) (type_variables 0 (h j))) (nowhere (there g)) (closeds (h j)))

  integer_same : (t : Num) → SameWide (I.Integer t)
  integer_same t = by_form (I.Integer t) (W.Integer t) (I.rolls-Integer t) refl

  truth_same : (c : Con) → SameWide (I.Truth c)
  truth_same c = by_form (I.Truth c) (W.Truth c) (I.rolls-Truth c) refl

  variable_wide : (i : ℕ) → SameWide (I.Variable i)
  variable_wide i = by_form (I.Variable i) (W.Variable i) (I.rolls-Variable i) (own_same (slice_get own i))
    where
      own_same : (o : Option Closed) → or_no_value (there g) o ≡ or_no_value (there k) o
      own_same None = refl
      own_same (Some c) = refl

  any_truth_gives : (name : Naming) → Gives (any_truth name) SameWide
  unfolding any_truth fresh_for
  any_truth_gives name = bind_gives _ _ (naming_gives (out-Naming name)) (λ p e. give_gives (I.Truth (C.Holds p)) (truth_same (C.Holds p)))

  between_any_gives : (name : Naming) (low high : Option Num) → Gives (integer_between name low high) SameWide
  unfolding integer_between fresh_for
  between_any_gives name low high =
      bind_gives _ _ (naming_gives (out-Naming name)) (λ v e.
      bind_gives _ _ (assume_if_gives _) (λ x d. bind_gives _ _ (assume_if_gives _) (λ y c. give_gives (I.Integer (variable v)) (integer_same (variable v)))))

  any_integer_gives : (name : Naming) → Gives (any_integer name) SameWide
  unfolding any_integer
  any_integer_gives name = between_any_gives name (Some least_num) (Some largest_num)

  bits_gives : (t : Num) → SameWide (I.Bits t) → Gives (bits_of t) SameWide
  unfolding bits_of
  bits_gives t h = bind_gives _ _ (between_gives _ _ _) (λ x d. give_gives (I.Bits t) h)

  vector_gives : (r : Reading) (t : Num) → SameWide (I.Vector t r) → Gives (vector_of r t) SameWide
  unfolding vector_of
  vector_gives r t h = bind_gives _ _ (between_gives _ _ _) (λ x d. give_gives (I.Vector t r) h)

  integer_of_gives : (tells : Bool) (t : Num) → Gives (integer_of tells t) SameWide
  unfolding integer_of
  integer_of_gives tells t = by tells (is_constant t)
    where
      by : (s c : Bool) → Gives
          (if s then (if c then give (I.Integer t) else bind (between least_num t largest_num) (λ x. give (I.Integer t))) else give (I.Integer t)) SameWide
      by false c = give_gives (I.Integer t) (integer_same t)
      by true true = give_gives (I.Integer t) (integer_same t)
      by true false = bind_gives _ _ (between_gives least_num t largest_num) (λ x d. give_gives (I.Integer t) (integer_same t))

  -- ---- parts of a tuple

  abbrev OpensSame : Opening → Type 0
  OpensSame o = (tells : Bool) (name : Naming) → Gives (o tells name) SameWide

  abbrev AllOpen : List Opening → Type 0
  AllOpen [] = Unit {0}
  AllOpen (o ∷ os) = OpensSame o × AllOpen os

  abbrev SameWides : List Indices → Type 0
  SameWides is = wides_of_at g is ≡ wides_of_at k is

  parts_give : (tells : Bool) (os : List Opening) → AllOpen os → (ns : List Naming) → Gives (parts_opened tells os ns) SameWides
  parts_give tells [] h ns = give_gives [] refl
  parts_give tells (o ∷ os) h [] =
      bind_gives _ _ (h.0 tells M.Unnamed) (λ i e. bind_gives _ _ (parts_give tells os h.1 []) (λ is es. give_gives (i ∷ is) (λ j. e j ∷ es j)))
  parts_give tells (o ∷ os) h (n ∷ ns) =
      bind_gives _ _ (h.0 tells n) (λ i e. bind_gives _ _ (parts_give tells os h.1 ns) (λ is es. give_gives (i ∷ is) (λ j. e j ∷ es j)))

  tuple_gives : (tells : Bool) (name : Naming) (os : List Opening) → AllOpen os → Gives (tuple_of tells name os) SameWide
  tuple_gives tells name os h = bind_gives _ _ (parts_give tells os h (namings_of name)) (λ is e. give_gives (I.Tuple is) (tuple_same is e))

  -- ---- types

  -- what a type's Int and Bool variables stand for is the same
  abbrev SameUnder : List Index → Type 0
  SameUnder is = under_these past g is ≡ under_these past k is

  read_same : (is : List Index) (t : Num) → SameUnder is → (u : Num) → read is t ≡ Some u → SameNumber u
  read_same is t s u e = number_read past g is t u e ∙ ap (λ mu. number mu t) s ∙ sym (number_read past k is t u e)

  abbrev SameIndex : Index → Type 0
  SameIndex x = index_there (there g) x ≡ index_there (there k) x

  index_gives : (is : List Index) → SameUnder is → (a : Index) (o : Option Index) → read_index is a ≡ o → Gives (index_or_fresh a o) SameIndex
  unfolding index_or_fresh
  index_gives is s (N.Number t) (Some x) e =
      give_gives x (index_read past g is (N.Number t) x e ∙ ap (λ mu. index_there mu (N.Number t)) s ∙ sym (index_read past k is (N.Number t) x e))
  index_gives is s (N.Truth c) (Some x) e =
      give_gives x (index_read past g is (N.Truth c) x e ∙ ap (λ mu. index_there mu (N.Truth c)) s ∙ sym (index_read past k is (N.Truth c) x e))
  index_gives is s (N.Number t) None e =
      bind_gives _ _ fresh_gives (λ v d. give_gives (N.Number (variable v)) (ap (λ z. N.Number (constant z)) (variable_same v d)))
  index_gives is s (N.Truth c) None e =
      bind_gives _ _ fresh_gives (λ p d. give_gives (N.Truth (C.Holds p))
      (ap (λ b. N.Truth (C.Truth b)) (holds_is (there g) p ∙ ap (int_le (pos 1)) d ∙ sym (holds_is (there k) p))))

  abbrev SameIndices : List Index → Type 0
  SameIndices xs = map (index_there (there g)) xs ≡ map (index_there (there k)) xs

  each_read_gives : (is args : List Index) → SameUnder is → Gives (each_read is args) SameIndices
  unfolding each_read read_or_fresh
  each_read_gives is args s =
      each_gives (read_or_fresh is) (λ a x. SameIndex x) (λ xs ys. SameIndices ys) refl (λ x y xs ys h hs. λ j. h j ∷ hs j)
      (λ a. index_gives is s a (read_index is a) refl) args

  bound_gives : (name : List ℕ) (c : Con) (is : List Index) → SameUnder is → Gives (bound_inside name c is) SameUnder
  unfolding bound_inside
  bound_gives name c is s =
      bind_gives _ _ (fresh_named_gives name) (λ v d. bind_gives _ _ (assume_if_gives _) (λ x e.
      let z = number (there k) (variable v) in
      give_gives (N.Number (variable v) ∷ is)
      (sym (under_number past g z is (variable v) (variable_same v d)) ∙ ap (under z) s ∙ under_number past k z is (variable v) refl)))

  ReadingGives : Reading → Type 0
  ReadingGives r = type_at g r ≡ type_at k r → OpensSame (opening r)

  abbrev AllGive : List Reading → Type 0
  AllGive [] = Unit {0}
  AllGive (r ∷ rs) = OpensSame (opening r) × AllGive rs

  variable_gives : (c : ℕ) (rs : List Reading) → AllGive rs → (i : ℕ) (tells : Bool) (name : Naming)
      → Gives (variable_opened c (slice_get (with_openings rs) i) tells name) SameWide
  variable_gives c [] h i tells name = give_gives (I.Variable c) (variable_wide c)
  variable_gives c (r ∷ rs) h zero tells name = h.0 tells name
  variable_gives c (r ∷ rs) h (suc i) tells name = variable_gives c rs h.1 i tells name

  module _ (rs : List Reading) (known : AllGive rs) (stands : stood types past own rs g ≡ stood types past own rs k) where
    TypGives : Typ → Type 0
    TypGives t = (is : List Index) → SameUnder is → (tells : Bool) (name : Naming) → Gives (typ_opened (with_openings rs) t is tells name) SameWide

    abbrev SuchTyp : Type 0
    SuchTyp = (t : Typ) × TypGives t

    abbrev typ_form : Typ-F SuchTyp → Typ-F Typ
    typ_form y = map-Typ SuchTyp Typ (λ p. p.0) y

    abbrev typs_in : List SuchTyp → List Typ
    typs_in ys = map (λ (y : SuchTyp). y.0) ys

    abbrev opened_form : Typ-F Typ → List Index → Bool → Naming → Walk Indices
    opened_form x is tells name =
        form_opened (with_openings rs) rs (map-Typ Typ (Typ × Inner) (λ t. (t, typ_opened (with_openings rs) t)) x) is tells name

    opens_form : (x : Typ-F Typ) (is : List Index) (tells : Bool) (name : Naming)
        → typ_opened (with_openings rs) (roll-Typ x) is tells name ≡ opened_form x is tells name
    unfolding typ_opened
    opens_form x is tells name =
        ap (λ f. f is tells name) (para-roll-Typ Inner (form_opened (with_openings rs) (map (λ (r : Reading × Opening). r.0) (with_openings rs))) x)
        ∙ ap (λ qs. form_opened (with_openings rs) qs (map-Typ Typ (Typ × Inner) (λ t. (t, typ_opened (with_openings rs) t)) x) is tells name)
        (fronts opening rs)

    -- a type under what the variables stand for
    of_same : (t : Typ) (is : List Index) → SameUnder is → type_at g (R.Of t is rs) ≡ type_at k (R.Of t is rs)
    of_same t is s = closed_of types past own rs g t is ∙ (λ j. reading t (s j) (stands j)) ∙ sym (closed_of types past own rs k t is)

    ofs_same : (ts : List Typ) (is : List Index) → SameUnder is → types_at g (map (λ t. R.Of t is rs) ts) ≡ types_at k (map (λ t. R.Of t is rs) ts)
    ofs_same [] is s = refl
    ofs_same (t ∷ ts) is s = λ j. of_same t is s j ∷ ofs_same ts is s j

    readings_are : (is : List Index) (ts : List Typ)
        → map (λ (t : Typ × Inner). R.Of t.0 is rs) (map (λ t. (t, typ_opened (with_openings rs) t)) ts) ≡ map (λ t. R.Of t is rs) ts
    readings_are is [] = refl
    readings_are is (t ∷ ts) = ap (λ qs. R.Of t is rs ∷ qs) (readings_are is ts)

    typs_give : (ys : List SuchTyp) (is : List Index) → SameUnder is
        → AllOpen (map (λ (t : Typ × Inner). t.1 is) (map (λ t. (t, typ_opened (with_openings rs) t)) (typs_in ys)))
    unfolding TypGives
    typs_give [] is s = tt
    typs_give (y ∷ ys) is s = (y.1 is s, typs_give ys is s)

    form_gives : (y : Typ-F SuchTyp) (is : List Index) → SameUnder is → (tells : Bool) (name : Naming)
        → Gives (opened_form (typ_form y) is tells name) SameWide
    unfolding TypGives truth_opened bits_opened integer_opened range_opened vector_opened named_opened
    form_gives T.Unit is s tells name = give_gives I.Unit (by_form I.Unit W.Unit I.rolls-Unit refl)
    form_gives T.Bool is s tells name = any_truth_gives name
    form_gives (T.Truth c) is s tells name = bind_gives _ _ (truth_gives (read_con is c)) (λ d e. give_gives (I.Truth d) (truth_same d))
    form_gives T.Bit is s tells name = give_gives I.Bit (by_form I.Bit W.Bit I.rolls-Bit refl)
    form_gives (T.Bits t) is s tells name = bind_gives _ _ (number_gives (read is t) (read_same is t s)) (λ u e. bits_gives u (bits_same u e))
    form_gives (T.Int t) is s tells name = bind_gives _ _ (number_gives (read is t) (read_same is t s)) (λ u e. integer_of_gives tells u)
    form_gives (T.Range t u) is s tells name = between_any_gives name (read is t) (read is u)
    form_gives T.String is s tells name = give_gives I.String (by_form I.String W.String I.rolls-String refl)
    form_gives (T.List y) is s tells name = give_gives (I.List (R.Of y.0 is rs)) (list_same (R.Of y.0 is rs) (of_same y.0 is s))
    form_gives (T.Vector l y) is s tells name =
        bind_gives _ _ (number_gives (read is l) (read_same is l s)) (λ u e. vector_gives (R.Of y.0 is rs) u (vector_same u (R.Of y.0 is rs) e (of_same y.0 is s)))
    form_gives (T.Tuple ys) is s tells name = tuple_gives tells name _ (typs_give ys is s)
    form_gives (T.Named u args ys) is s tells name =
        bind_gives _ _ (each_read_gives is args s) (λ xs e. give_gives _ (named_same u xs _ e
        (ap (types_at g) (readings_are is (typs_in ys)) ∙ ofs_same (typs_in ys) is s ∙ sym (ap (types_at k) (readings_are is (typs_in ys))))))
    form_gives (T.Variable i) is s tells name = variable_gives i rs known i tells name
    form_gives (T.Exists own_name c y) is s tells name = bind_gives _ _ (bound_gives own_name c is s) (λ js e. y.1 js e true name)

    typ_step : (y : Typ-F SuchTyp) → TypGives (roll-Typ (typ_form y))
    unfolding TypGives
    typ_step y is s tells name =
        subst (λ (w : Walk Indices). Gives w SameWide) (sym (opens_form (typ_form y) is tells name)) (form_gives y is s tells name)

    typ_gives : (t : Typ) → TypGives t
    typ_gives = ind-Typ TypGives (λ e y same_form. subst (λ d. TypGives (roll-Typ d)) same_form (typ_step y))

  -- ---- types of the walk

  WideGives : Indices → Type 0
  WideGives i = SameWide i → (name : Naming) → Gives (wide_opening i false name) SameWide

  abbrev Wide : Type 0
  Wide = (i : Indices) × WideGives i

  abbrev Read : Type 0
  Read = (r : Reading) × ReadingGives r

  abbrev indices_of : Indices-F Wide Read → Indices-F Indices Reading
  indices_of y = map-Indices Wide Read Indices Reading (λ p. p.0) (λ p. p.0) y

  abbrev reading_of : Reading-F Wide Read → Reading-F Indices Reading
  reading_of y = map-Reading Wide Read Indices Reading (λ p. p.0) (λ p. p.0) y

  abbrev wides_in : List Wide → List Indices
  wides_in ys = map (λ (y : Wide). y.0) ys

  abbrev readings_in : List Read → List Reading
  readings_in ys = map (λ (y : Read). y.0) ys

  abbrev wide_form : Indices-F Indices Reading → Naming → Walk Indices
  wide_form x name =
      widened_opened (map-Indices Indices Reading (Indices × Opening) (Reading × Opening) (λ i. (i, wide_opening i)) (λ r. (r, opening r)) x) false name

  widens_form : (x : Indices-F Indices Reading) (name : Naming) → wide_opening (roll-Indices x) false name ≡ wide_form x name
  unfolding wide_opening opening
  widens_form x name = ap (λ o. o false name) (para-roll-Indices Opening Opening widened_opened reading_opened x)

  abbrev reading_form : Reading-F Indices Reading → Bool → Naming → Walk Indices
  reading_form x tells name =
      reading_opened (map-Reading Indices Reading (Indices × Opening) (Reading × Opening) (λ i. (i, wide_opening i)) (λ r. (r, opening r)) x) tells name

  opens_reading : (x : Reading-F Indices Reading) (tells : Bool) (name : Naming) → opening (roll-Reading x) tells name ≡ reading_form x tells name
  unfolding wide_opening opening
  opens_reading x tells name = ap (λ o. o tells name) (para-roll-Reading Opening Opening widened_opened reading_opened x)

  wide_parts_give : (ys : List Wide) → wides_of_at g (wides_in ys) ≡ wides_of_at k (wides_in ys) → (ns : List Naming)
      → Gives (parts_opened false (map (λ (p : Indices × Opening). p.1) (map (λ i. (i, wide_opening i)) (wides_in ys))) ns) SameWides
  unfolding WideGives
  wide_parts_give [] e ns = give_gives [] refl
  wide_parts_give (y ∷ ys) e [] =
      let p = cons_same types past own (wide_value_at g y.0) (wide_value_at k y.0) (wides_of_at g (wides_in ys)) (wides_of_at k (wides_in ys)) e in
      bind_gives _ _ (y.1 p.0 M.Unnamed) (λ i d. bind_gives _ _ (wide_parts_give ys p.1 []) (λ is ds. give_gives (i ∷ is) (λ j. d j ∷ ds j)))
  wide_parts_give (y ∷ ys) e (n ∷ ns) =
      let p = cons_same types past own (wide_value_at g y.0) (wide_value_at k y.0) (wides_of_at g (wides_in ys)) (wides_of_at k (wides_in ys)) e in
      bind_gives _ _ (y.1 p.0 n) (λ i d. bind_gives _ _ (wide_parts_give ys p.1 ns) (λ is ds. give_gives (i ∷ is) (λ j. d j ∷ ds j)))

  abbrev at : Integers → Indices-F Wide Read → Closed
  at h y = wide_at types past own h (indices_of y)

  form_widens : (y : Indices-F Wide Read) → at g y ≡ at k y → (name : Naming) → Gives (wide_form (indices_of y) name) SameWide
  form_widens W.Never e name = give_gives I.Never (by_form I.Never W.Never I.rolls-Never e)
  form_widens W.Unit e name = give_gives I.Unit (by_form I.Unit W.Unit I.rolls-Unit e)
  form_widens (W.Truth c) e name = any_truth_gives name
  form_widens W.Bit e name = give_gives I.Bit (by_form I.Bit W.Bit I.rolls-Bit e)
  form_widens (W.Bits t) e name = bits_gives t (by_form (I.Bits t) (W.Bits t) (I.rolls-Bits t) e)
  form_widens (W.Integer t) e name = any_integer_gives name
  form_widens W.String e name = give_gives I.String (by_form I.String W.String I.rolls-String e)
  form_widens (W.List r) e name = give_gives (I.List r.0) (by_form (I.List r.0) (W.List r.0) (I.rolls-List r.0) e)
  form_widens (W.Vector t r) e name = vector_gives r.0 t (by_form (I.Vector t r.0) (W.Vector t r.0) (I.rolls-Vector t r.0) e)
  form_widens (W.Tuple ys) e name =
      bind_gives _ _
      (wide_parts_give ys (same_lists types past own (wides_of_at g (wides_in ys)) (wides_of_at k (wides_in ys)) (ap readings_part e)) (namings_of name))
      (λ is d. give_gives (I.Tuple is) (tuple_same is d))
  form_widens (W.Named u is ys) e name =
      let qs = readings_in ys in
      give_gives _ (subst (λ rs. SameWide (I.Named u is rs)) (sym (fronts opening qs)) (by_form (I.Named u is qs) (W.Named u is qs) (I.rolls-Named u is qs) e))
  form_widens (W.Variable i) e name = give_gives (I.Variable i) (variable_wide i)

  wide_step : (y : Indices-F Wide Read) → WideGives (roll-Indices (indices_of y))
  unfolding WideGives
  wide_step y e name =
      let x = indices_of y in
      subst (λ (w : Walk Indices). Gives w SameWide) (sym (widens_form x name))
      (form_widens y (sym (wide_is g (roll-Indices x) x refl) ∙ e ∙ wide_is k (roll-Indices x) x refl) name)

  first_types : (rs : List Reading) (os : List Closed) → types_or_own (types_at g rs) os ≡ types_or_own (types_at k rs) os → types_at g rs ≡ types_at k rs
  first_types [] os e = refl
  first_types (r ∷ rs) [] e = e
  first_types (r ∷ rs) (o ∷ os) e =
      let p = cons_same types past own (type_at g r) (type_at k r) (types_or_own (types_at g rs) os) (types_or_own (types_at k rs) os) e in
      λ j. p.0 j ∷ first_types rs os p.1 j

  all_give : (ys : List Read) → types_at g (readings_in ys) ≡ types_at k (readings_in ys) → AllGive (readings_in ys)
  unfolding ReadingGives
  all_give [] e = tt
  all_give (y ∷ ys) e =
      let p = cons_same types past own (type_at g y.0) (type_at k y.0) (types_at g (readings_in ys)) (types_at k (readings_in ys)) e in
      (y.1 p.0, all_give ys p.1)

  all_open : (rs : List Reading) → AllGive rs → AllOpen (map (λ (r : Reading × Opening). r.1) (map (λ r. (r, opening r)) rs))
  all_open [] h = tt
  all_open (r ∷ rs) h = (h.0, all_open rs h.1)

  closed_at : (h : Integers) (x : Reading-F Indices Reading) → type_at h (roll-Reading x) ≡ Means.closed_form types (there h) own (closing types (there h) own x)
  closed_at h x = closed_is types (there h) own (roll-Reading x) x refl

  form_reads : (y : Reading-F Wide Read) → type_at g (roll-Reading (reading_of y)) ≡ type_at k (roll-Reading (reading_of y)) → (tells : Bool) (name : Naming)
      → Gives (reading_form (reading_of y) tells name) SameWide
  unfolding WideGives TypGives
  form_reads (W.Of t is ys) e tells name =
      let rs = readings_in ys in
      let p = sym (closed_at g (W.Of t is rs)) ∙ e ∙ closed_at k (W.Of t is rs) in
      let stands = ap readings_part p in
      let each = first_types rs own (same_lists types past own (types_or_own (types_at g rs) own) (types_or_own (types_at k rs) own) stands) in
      typ_gives rs (all_give ys each) stands t is (ap assignment_part p) tells name
  form_reads (W.Widened y) e tells name = y.1 (sym (closed_at g (W.Widened y.0)) ∙ e ∙ closed_at k (W.Widened y.0)) name
  form_reads (W.Parts ys) e tells name =
      let rs = readings_in ys in
      let p = sym (closed_at g (W.Parts rs)) ∙ e ∙ closed_at k (W.Parts rs) in
      tuple_gives tells name _ (all_open rs (all_give ys (same_lists types past own (types_at g rs) (types_at k rs) (ap readings_part p))))
  form_reads W.Hole e tells name = give_gives I.Never (by_form I.Never W.Never I.rolls-Never refl)

  reading_step : (y : Reading-F Wide Read) → ReadingGives (roll-Reading (reading_of y))
  unfolding ReadingGives
  reading_step y e tells name =
      subst (λ (w : Walk Indices). Gives w SameWide) (sym (opens_reading (reading_of y) tells name)) (form_reads y e tells name)

  each_gives_same : (r : Reading) → ReadingGives r
  each_gives_same = ind-Reading WideGives ReadingGives (λ e y same_form. subst (λ d. WideGives (roll-Indices d)) same_form (wide_step y))
      (λ e y same_form. subst (λ d. ReadingGives (roll-Reading d)) same_form (reading_step y))

  -- a value of a type
  pub opened_same : (r : Reading) → type_at g r ≡ type_at k r → SameWide (opened r [] start).value
  unfolding opened ReadingGives
  opened_same r e = (each_gives_same r e false M.Unnamed).holds [] start (le_self start)
