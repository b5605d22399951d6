-- What is kept by the steps of a walk is kept where values of types are opened.
use Rattle.std.proofs.Common.{◌≡◌, ℕ, zero, suc, Bool, true, false, List, [], ◌∷◌, map, slice_get, Option, Some, None, if◌then◌else◌}
use Rattle.std.proofs.Common.{sym, ap, ◌∙◌, subst}
use Rattle.sail_types.specs.Readings.{read_con, read_index}
use Rattle.sail_types.specs.Sums.{is_constant, read, variable}
use Rattle.sail_types.specs.declared.numbers.Con.{Con}
use Rattle.sail_types.specs.declared.numbers.Con.TheVariants as C
use Rattle.sail_types.specs.declared.numbers.Index.{Index}
use Rattle.sail_types.specs.declared.numbers.Index.TheVariants as N
use Rattle.sail_types.specs.declared.numbers.Num.{Num}
use Rattle.sail_types.specs.declared.types.Typ.{Typ, Typ-F, roll-Typ}
use Rattle.sail_types.specs.declared.types.Typ.TheFolds.{para-roll-Typ, map-Typ, ind-Typ}
use Rattle.sail_types.specs.declared.types.Typ.TheOpen as T
use Rattle.value_indices.specs.declared.indices.Indices.{Indices, roll-Indices}
use Rattle.value_indices.specs.declared.indices.Indices.TheFolds.{para-roll-Indices, para-roll-Reading, map-Indices, map-Reading, ind-Reading}
use Rattle.value_indices.specs.declared.indices.Indices.TheOpen as W
use Rattle.value_indices.specs.declared.indices.Indices.TheOpen.{Indices-F, Reading-F}
use Rattle.value_indices.specs.declared.indices.Indices.TheVariants as I
use Rattle.value_indices.specs.declared.indices.Naming.{Naming, Naming-F, out-Naming}
use Rattle.value_indices.specs.declared.indices.Naming.TheVariants as M
use Rattle.value_indices.specs.declared.indices.Naming.TheOpen as G
use Rattle.value_indices.specs.declared.indices.Reading.{Reading, roll-Reading}
use Rattle.value_indices.specs.declared.notes.Fact.{Fact}
use Rattle.value_indices.specs.Steps.{Walk, bind, give, assume, assume_if, fresh, fresh_named, each}
use Rattle.value_indices.specs.Opening.{between, fresh_integer, number_or_fresh, truth_or_fresh, index_or_fresh, read_or_fresh, each_read}
use Rattle.value_indices.specs.Opening.{named_form, fresh_for, namings_of, bound_below, bound_above, integer_between, any_integer, any_truth}
use Rattle.value_indices.specs.Opening.{bits_of, vector_of, integer_of, least_num, largest_num, Opening, Inner, parts_opened, tuple_of, variable_opened}
use Rattle.value_indices.specs.Opening.{truth_opened, bits_opened, integer_opened, range_opened, vector_opened, named_opened, bound_inside, form_opened}
use Rattle.value_indices.specs.Opening.{widened_opened, typ_opened, reading_opened, opening, wide_opening, with_openings, opened}
use Rattle.value_laws.proofs.Basics.{fronts}
use Rattle.sail_base.specs.declared.place.Place.{Place}
use Rattle.sail_types.specs.declared.table.Types.{Types}
use Rattle.value_indices.specs.declared.notes.Made.{Made}
use Rattle.value_indices.specs.Steps.{Conditions, facts_here, next_variable, note, owe, owe_under, size_note, way_note}
use Rattle.value_fits.specs.Fitting.{fits, owe_fit, owe_fit_under}
use Rattle.value_fits.specs.declared.fitted.Fitted.{Fitted}

-- what holds of the steps of a walk that are of no node of an expression, and of walks made of such as it holds of
pub record Keeps (P : (A : Type 0) → Walk A → Type 0) : Type 1 where
  pub gives : {A : Type 0} (x : A) → P A (give x)
  pub binds : {A B : Type 0} (w : Walk A) (k : A → Walk B) → P A w → ((x : A) → P B (k x)) → P B (bind w k)
  pub assumes : (c : Con) → P (Unit {0}) (assume c)
  pub counts : P ℕ fresh
  pub names : (name : List ℕ) → P ℕ (fresh_named name)
  pub here : P (List Fact) facts_here
  pub next_one : P ℕ next_variable
  pub owes_fit : (place : Place) (a : ℕ → Fitted) → P (Unit {0}) (owe_fit place a)
  pub owes : (place : Place) (cs : Conditions) → P (Unit {0}) (owe place cs)
  pub owes_under : (earlier : List Fact) (place : Place) (cs : Conditions) → P (Unit {0}) (owe_under earlier place cs)
  pub fits_under : (earlier : List Fact) (place : Place) (types : Types) (i : Indices) (r : Reading)
      → P (Unit {0}) (owe_fit_under earlier place (fits types i r))
  pub sizes : (place : Place) (made : Made) → P (Unit {0}) (note (λ facts. size_note facts place made))
  pub ways : (d : ℕ) → P (Unit {0}) (note (λ facts. way_note facts d))

module _ (P : (A : Type 0) → Walk A → Type 0) (keeps : Keeps P) where
  abbrev pub Kept : {A : Type 0} → Walk A → Type 0
  Kept {A} w = P A w

  pub give_kept : {A : Type 0} (x : A) → Kept (give x)
  give_kept x = keeps.gives x

  pub bind_kept : {A B : Type 0} (w : Walk A) (k : A → Walk B) → Kept w → ((x : A) → Kept (k x)) → Kept (bind w k)
  bind_kept w k h more = keeps.binds w k h more

  pub assume_kept : (c : Con) → Kept (assume c)
  assume_kept c = keeps.assumes c

  pub assume_if_kept : (o : Option Con) → Kept (assume_if o)
  assume_if_kept None = give_kept tt
  assume_if_kept (Some c) = assume_kept c

  pub fresh_kept : Kept fresh
  fresh_kept = keeps.counts

  pub fresh_named_kept : (name : List ℕ) → Kept (fresh_named name)
  fresh_named_kept name = keeps.names name

  pub each_kept : {A B : Type 0} (f : A → Walk B) → ((x : A) → Kept (f x)) → (xs : List A) → Kept (each f xs)
  each_kept f h [] = give_kept []
  each_kept f h (x ∷ xs) = bind_kept (f x) _ (h x) (λ y. bind_kept (each f xs) _ (each_kept f h xs) (λ ys. give_kept (y ∷ ys)))

  -- ---- numbers and truths

  pub between_kept : (low t high : Num) → Kept (between low t high)
  unfolding between
  between_kept low t high = bind_kept _ _ (assume_kept _) (λ x. assume_kept _)

  pub integer_kept : Kept fresh_integer
  unfolding fresh_integer
  integer_kept = bind_kept _ _ fresh_kept (λ v. bind_kept _ _ (between_kept least_num (variable v) largest_num) (λ x. give_kept (variable v)))

  pub number_kept : (o : Option Num) → Kept (number_or_fresh o)
  unfolding number_or_fresh
  number_kept None = integer_kept
  number_kept (Some t) = give_kept t

  pub truth_kept : (o : Option Con) → Kept (truth_or_fresh o)
  unfolding truth_or_fresh
  truth_kept None = bind_kept _ _ fresh_kept (λ p. give_kept (C.Holds p))
  truth_kept (Some c) = give_kept c

  index_kept : (kind : Index) (o : Option Index) → Kept (index_or_fresh kind o)
  unfolding index_or_fresh
  index_kept (N.Number t) (Some i) = give_kept i
  index_kept (N.Truth c) (Some i) = give_kept i
  index_kept (N.Number t) None = bind_kept _ _ fresh_kept (λ v. give_kept (N.Number (variable v)))
  index_kept (N.Truth c) None = bind_kept _ _ fresh_kept (λ p. give_kept (N.Truth (C.Holds p)))

  read_kept : (is : List Index) (i : Index) → Kept (read_or_fresh is i)
  unfolding read_or_fresh
  read_kept is i = index_kept i (read_index is i)

  each_read_kept : (is args : List Index) → Kept (each_read is args)
  unfolding each_read
  each_read_kept is args = each_kept (read_or_fresh is) (read_kept is) args

  naming_kept : (x : Naming-F Naming) → Kept (named_form x)
  naming_kept (G.Named name) = fresh_named_kept name
  naming_kept x = fresh_kept

  pub fresh_for_kept : (naming : Naming) → Kept (fresh_for naming)
  unfolding fresh_for
  fresh_for_kept naming = naming_kept (out-Naming naming)

  between_any_kept : (name : Naming) (low high : Option Num) → Kept (integer_between name low high)
  unfolding integer_between
  between_any_kept name low high =
      bind_kept _ _ (fresh_for_kept name) (λ v.
      bind_kept _ _ (assume_if_kept (bound_below low (variable v))) (λ x.
      bind_kept _ _ (assume_if_kept (bound_above (variable v) high)) (λ y. give_kept (I.Integer (variable v)))))

  pub any_integer_kept : (name : Naming) → Kept (any_integer name)
  unfolding any_integer
  any_integer_kept name = between_any_kept name (Some least_num) (Some largest_num)

  pub any_truth_kept : (name : Naming) → Kept (any_truth name)
  unfolding any_truth
  any_truth_kept name = bind_kept _ _ (fresh_for_kept name) (λ p. give_kept (I.Truth (C.Holds p)))

  pub bits_kept : (t : Num) → Kept (bits_of t)
  unfolding bits_of
  bits_kept t = bind_kept _ _ (between_kept _ _ _) (λ x. give_kept (I.Bits t))

  pub vector_kept : (r : Reading) (t : Num) → Kept (vector_of r t)
  unfolding vector_of
  vector_kept r t = bind_kept _ _ (between_kept _ _ _) (λ x. give_kept (I.Vector t r))

  integer_of_kept : (tells : Bool) (t : Num) → Kept (integer_of tells t)
  unfolding integer_of
  integer_of_kept tells t = by tells (is_constant t)
    where
      by : (s c : Bool)
          → Kept (if s then (if c then give (I.Integer t) else bind (between least_num t largest_num) (λ x. give (I.Integer t))) else give (I.Integer t))
      by false c = give_kept (I.Integer t)
      by true true = give_kept (I.Integer t)
      by true false = bind_kept _ _ (between_kept least_num t largest_num) (λ x. give_kept (I.Integer t))

  -- ---- parts

  abbrev OpeningKept : Opening → Type 0
  OpeningKept o = (tells : Bool) (name : Naming) → Kept (o tells name)

  abbrev AllKept : List Opening → Type 0
  AllKept [] = Unit {0}
  AllKept (o ∷ os) = OpeningKept o × AllKept os

  parts_kept : (tells : Bool) (os : List Opening) → AllKept os → (ns : List Naming) → Kept (parts_opened tells os ns)
  parts_kept tells [] h ns = give_kept []
  parts_kept tells (o ∷ os) h [] =
      bind_kept _ _ (h.0 tells M.Unnamed) (λ i. bind_kept _ _ (parts_kept tells os h.1 []) (λ is. give_kept (i ∷ is)))
  parts_kept tells (o ∷ os) h (n ∷ ns) = bind_kept _ _ (h.0 tells n) (λ i. bind_kept _ _ (parts_kept tells os h.1 ns) (λ is. give_kept (i ∷ is)))

  tuple_kept : (tells : Bool) (name : Naming) (os : List Opening) → AllKept os → Kept (tuple_of tells name os)
  tuple_kept tells name os h = bind_kept _ _ (parts_kept tells os h (namings_of name)) (λ is. give_kept (I.Tuple is))

  -- ---- types

  truth_opened_kept : (is : List Index) (c : Con) → Kept (truth_opened is c)
  unfolding truth_opened
  truth_opened_kept is c = bind_kept _ _ (truth_kept (read_con is c)) (λ d. give_kept (I.Truth d))

  bits_opened_kept : (is : List Index) (t : Num) → Kept (bits_opened is t)
  unfolding bits_opened
  bits_opened_kept is t = bind_kept _ _ (number_kept (read is t)) bits_kept

  integer_opened_kept : (is : List Index) (tells : Bool) (t : Num) → Kept (integer_opened is tells t)
  unfolding integer_opened
  integer_opened_kept is tells t = bind_kept _ _ (number_kept (read is t)) (integer_of_kept tells)

  range_opened_kept : (is : List Index) (name : Naming) (t u : Num) → Kept (range_opened is name t u)
  unfolding range_opened
  range_opened_kept is name t u = between_any_kept name (read is t) (read is u)

  vector_opened_kept : (is : List Index) (rs : List Reading) (n : Num) (t : Typ) → Kept (vector_opened is rs n t)
  unfolding vector_opened
  vector_opened_kept is rs n t = bind_kept _ _ (number_kept (read is n)) (vector_kept _)

  named_opened_kept : (is : List Index) (u : ℕ) (args : List Index) (rs : List Reading) → Kept (named_opened is u args rs)
  unfolding named_opened
  named_opened_kept is u args rs = bind_kept _ _ (each_read_kept is args) (λ known. give_kept (I.Named u known rs))

  bound_kept : (own : List ℕ) (c : Con) (is : List Index) → Kept (bound_inside own c is)
  unfolding bound_inside
  bound_kept own c is =
      bind_kept _ _ (fresh_named_kept own) (λ v.
      bind_kept _ _ (assume_if_kept (read_con (N.Number (variable v) ∷ is) c)) (λ x. give_kept (N.Number (variable v) ∷ is)))

  -- what Type variables stand for
  ReadingKept : Reading → Type 0
  ReadingKept r = OpeningKept (opening r)

  abbrev AllRead : List Reading → Type 0
  AllRead [] = Unit {0}
  AllRead (r ∷ rs) = ReadingKept r × AllRead rs

  variable_kept : (k : ℕ) (rs : List Reading) → AllRead rs → (i : ℕ) (tells : Bool) (name : Naming)
      → Kept (variable_opened k (slice_get (with_openings rs) i) tells name)
  unfolding ReadingKept
  variable_kept k [] h i tells name = give_kept (I.Variable k)
  variable_kept k (r ∷ rs) h zero tells name = h.0 tells name
  variable_kept k (r ∷ rs) h (suc i) tells name = variable_kept k rs h.1 i tells name

  module _ (rs : List Reading) (known : AllRead rs) where
    TypKept : Typ → Type 0
    TypKept t = (is : List Index) (tells : Bool) (name : Naming) → Kept (typ_opened (with_openings rs) t is tells name)

    abbrev SuchTyp : Type 0
    SuchTyp = (t : Typ) × TypKept t

    abbrev typ_form : Typ-F SuchTyp → Typ-F Typ
    typ_form y = map-Typ SuchTyp Typ (λ p. p.0) y

    abbrev types_in : List SuchTyp → List Typ
    types_in ys = map (λ (y : SuchTyp). y.0) ys

    -- the form of a type, opened
    abbrev opened_form : Typ-F Typ → List Index → Bool → Naming → Walk Indices
    opened_form x is tells name =
        form_opened (with_openings rs) rs (map-Typ Typ (Typ × Inner) (λ t. (t, typ_opened (with_openings rs) t)) x) is tells name

    opens_form : (x : Typ-F Typ) (is : List Index) (tells : Bool) (name : Naming)
        → typ_opened (with_openings rs) (roll-Typ x) is tells name ≡ opened_form x is tells name
    unfolding typ_opened
    opens_form x is tells name =
        ap (λ f. f is tells name) (para-roll-Typ Inner (form_opened (with_openings rs) (map (λ (r : Reading × Opening). r.0) (with_openings rs))) x)
        ∙ ap (λ qs. form_opened (with_openings rs) qs (map-Typ Typ (Typ × Inner) (λ t. (t, typ_opened (with_openings rs) t)) x) is tells name)
        (fronts opening rs)

    typs_kept : (ys : List SuchTyp) (is : List Index)
        → AllKept (map (λ (t : Typ × Inner). t.1 is) (map (λ t. (t, typ_opened (with_openings rs) t)) (types_in ys)))
    unfolding TypKept
    typs_kept [] is = tt
    typs_kept (y ∷ ys) is = (y.1 is, typs_kept ys is)

    form_kept : (y : Typ-F SuchTyp) (is : List Index) (tells : Bool) (name : Naming) → Kept (opened_form (typ_form y) is tells name)
    unfolding TypKept
    form_kept T.Unit is tells name = give_kept I.Unit
    form_kept T.Bool is tells name = any_truth_kept name
    form_kept (T.Truth c) is tells name = truth_opened_kept is c
    form_kept T.Bit is tells name = give_kept I.Bit
    form_kept (T.Bits t) is tells name = bits_opened_kept is t
    form_kept (T.Int t) is tells name = integer_opened_kept is tells t
    form_kept (T.Range t u) is tells name = range_opened_kept is name t u
    form_kept T.String is tells name = give_kept I.String
    form_kept (T.List y) is tells name = give_kept _
    form_kept (T.Vector n y) is tells name = vector_opened_kept is rs n y.0
    form_kept (T.Tuple ys) is tells name = tuple_kept tells name _ (typs_kept ys is)
    form_kept (T.Named u args ys) is tells name = named_opened_kept is u args _
    form_kept (T.Variable i) is tells name = variable_kept i rs known i tells name
    form_kept (T.Exists own c y) is tells name = bind_kept _ _ (bound_kept own c is) (λ js. y.1 js true name)

    typ_step : (y : Typ-F SuchTyp) → TypKept (roll-Typ (typ_form y))
    unfolding TypKept
    typ_step y is tells name =
        subst (λ (w : Walk Indices). Kept w) (sym (opens_form (typ_form y) is tells name)) (form_kept y is tells name)

    typ_kept : (t : Typ) → TypKept t
    typ_kept = ind-Typ TypKept (λ e y same_form. subst (λ d. TypKept (roll-Typ d)) same_form (typ_step y))

  -- ---- types of the walk

  WideKept : Indices → Type 0
  WideKept i = (name : Naming) → Kept (wide_opening i false name)

  abbrev Wide : Type 0
  Wide = (i : Indices) × WideKept i

  abbrev Read : Type 0
  Read = (r : Reading) × ReadingKept r

  abbrev indices_of : Indices-F Wide Read → Indices-F Indices Reading
  indices_of y = map-Indices Wide Read Indices Reading (λ p. p.0) (λ p. p.0) y

  abbrev reading_of : Reading-F Wide Read → Reading-F Indices Reading
  reading_of y = map-Reading Wide Read Indices Reading (λ p. p.0) (λ p. p.0) y

  abbrev wide_form : Indices-F Indices Reading → Naming → Walk Indices
  wide_form x name =
      widened_opened (map-Indices Indices Reading (Indices × Opening) (Reading × Opening) (λ i. (i, wide_opening i)) (λ r. (r, opening r)) x) false name

  widens_form : (x : Indices-F Indices Reading) (name : Naming) → wide_opening (roll-Indices x) false name ≡ wide_form x name
  unfolding wide_opening opening
  widens_form x name = ap (λ o. o false name) (para-roll-Indices Opening Opening widened_opened reading_opened x)

  abbrev reading_form : Reading-F Indices Reading → Bool → Naming → Walk Indices
  reading_form x tells name =
      reading_opened (map-Reading Indices Reading (Indices × Opening) (Reading × Opening) (λ i. (i, wide_opening i)) (λ r. (r, opening r)) x) tells name

  opens_reading : (x : Reading-F Indices Reading) (tells : Bool) (name : Naming) → opening (roll-Reading x) tells name ≡ reading_form x tells name
  unfolding wide_opening opening
  opens_reading x tells name = ap (λ o. o tells name) (para-roll-Reading Opening Opening widened_opened reading_opened x)

  abbrev wides_in : List Wide → List Indices
  wides_in ys = map (λ (y : Wide). y.0) ys

  abbrev readings_in : List Read → List Reading
  readings_in ys = map (λ (y : Read). y.0) ys

  wide_parts_kept : (ys : List Wide) (ns : List Naming)
      → Kept (parts_opened false (map (λ (p : Indices × Opening). p.1) (map (λ i. (i, wide_opening i)) (wides_in ys))) ns)
  unfolding WideKept
  wide_parts_kept [] ns = give_kept []
  wide_parts_kept (y ∷ ys) [] =
      bind_kept _ _ (y.1 M.Unnamed) (λ i. bind_kept _ _ (wide_parts_kept ys []) (λ is. give_kept (i ∷ is)))
  wide_parts_kept (y ∷ ys) (n ∷ ns) = bind_kept _ _ (y.1 n) (λ i. bind_kept _ _ (wide_parts_kept ys ns) (λ is. give_kept (i ∷ is)))

  wide_kept : (y : Indices-F Wide Read) (name : Naming) → Kept (wide_form (indices_of y) name)
  wide_kept W.Never name = give_kept I.Never
  wide_kept W.Unit name = give_kept I.Unit
  wide_kept (W.Truth c) name = any_truth_kept name
  wide_kept W.Bit name = give_kept I.Bit
  wide_kept (W.Bits t) name = bits_kept t
  wide_kept (W.Integer t) name = any_integer_kept name
  wide_kept W.String name = give_kept I.String
  wide_kept (W.List r) name = give_kept _
  wide_kept (W.Vector n r) name = vector_kept _ n
  wide_kept (W.Tuple ys) name = bind_kept _ _ (wide_parts_kept ys (namings_of name)) (λ is. give_kept (I.Tuple is))
  wide_kept (W.Named u args ys) name = give_kept _
  wide_kept (W.Variable i) name = give_kept (I.Variable i)

  wide_step : (y : Indices-F Wide Read) → WideKept (roll-Indices (indices_of y))
  unfolding WideKept
  wide_step y name = subst (λ (w : Walk Indices). Kept w) (sym (widens_form (indices_of y) name)) (wide_kept y name)

  all_read : (ys : List Read) → AllRead (readings_in ys)
  all_read [] = tt
  all_read (y ∷ ys) = (y.1, all_read ys)

  readings_kept : (ys : List Read) → AllKept (map (λ (r : Reading × Opening). r.1) (map (λ r. (r, opening r)) (readings_in ys)))
  unfolding ReadingKept
  readings_kept [] = tt
  readings_kept (y ∷ ys) = (y.1, readings_kept ys)

  reading_kept : (y : Reading-F Wide Read) (tells : Bool) (name : Naming) → Kept (reading_form (reading_of y) tells name)
  unfolding WideKept TypKept
  reading_kept (W.Of t is ys) tells name = typ_kept (readings_in ys) (all_read ys) t is tells name
  reading_kept (W.Widened y) tells name = y.1 name
  reading_kept (W.Parts ys) tells name = tuple_kept tells name _ (readings_kept ys)
  reading_kept W.Hole tells name = give_kept I.Never

  reading_step : (y : Reading-F Wide Read) → ReadingKept (roll-Reading (reading_of y))
  unfolding ReadingKept
  reading_step y tells name = subst (λ (w : Walk Indices). Kept w) (sym (opens_reading (reading_of y) tells name)) (reading_kept y tells name)

  each_reading_kept : (r : Reading) → ReadingKept r
  each_reading_kept = ind-Reading WideKept ReadingKept (λ e y same_form. subst (λ d. WideKept (roll-Indices d)) same_form (wide_step y))
      (λ e y same_form. subst (λ d. ReadingKept (roll-Reading d)) same_form (reading_step y))

  pub opening_kept : (r : Reading) (tells : Bool) (name : Naming) → Kept (opening r tells name)
  unfolding ReadingKept
  opening_kept r tells name = each_reading_kept r tells name

  pub opened_kept : (r : Reading) → Kept (opened r)
  unfolding opened
  opened_kept r = opening_kept r false M.Unnamed
