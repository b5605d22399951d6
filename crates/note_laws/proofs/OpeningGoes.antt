-- What is opened goes through no mapping: a walk over a type names its variables alone.
use Rattle.std.proofs.Common.{◌≡◌, ℕ, zero, suc, Bool, true, false, List, [], ◌∷◌, map, slice_get, Option, Some, None, if◌then◌else◌}
use Rattle.std.proofs.Common.{sym, ap, ◌∙◌, subst}
use Rattle.sail_types.specs.Readings.{read_con, read_index}
use Rattle.sail_types.specs.Sums.{is_constant, read, variable}
use Rattle.sail_types.specs.declared.numbers.Con.{Con}
use Rattle.sail_types.specs.declared.numbers.Con.TheVariants as C
use Rattle.sail_types.specs.declared.numbers.Index.{Index}
use Rattle.sail_types.specs.declared.numbers.Index.TheVariants as N
use Rattle.sail_types.specs.declared.numbers.Num.{Num}
use Rattle.sail_types.specs.declared.types.Typ.{Typ, Typ-F, roll-Typ}
use Rattle.sail_types.specs.declared.types.Typ.TheFolds.{para-roll-Typ, map-Typ, ind-Typ}
use Rattle.sail_types.specs.declared.types.Typ.TheOpen as T
use Rattle.value_indices.specs.declared.indices.Indices.{Indices, roll-Indices}
use Rattle.value_indices.specs.declared.indices.Indices.TheFolds.{para-roll-Indices, para-roll-Reading, map-Indices, map-Reading, ind-Reading}
use Rattle.value_indices.specs.declared.indices.Indices.TheOpen as W
use Rattle.value_indices.specs.declared.indices.Indices.TheOpen.{Indices-F, Reading-F}
use Rattle.value_indices.specs.declared.indices.Indices.TheVariants as I
use Rattle.value_indices.specs.declared.indices.Naming.{Naming, Naming-F, out-Naming}
use Rattle.value_indices.specs.declared.indices.Naming.TheVariants as M
use Rattle.value_indices.specs.declared.indices.Naming.TheOpen as G
use Rattle.value_indices.specs.declared.indices.Reading.{Reading, roll-Reading}
use Rattle.value_indices.specs.Steps.{Walk, bind, give}
use Rattle.value_indices.specs.Opening.{between, fresh_integer, number_or_fresh, truth_or_fresh, index_or_fresh, read_or_fresh, each_read}
use Rattle.value_indices.specs.Opening.{named_form, fresh_for, namings_of, bound_below, bound_above, integer_between, any_integer, any_truth}
use Rattle.value_indices.specs.Opening.{bits_of, vector_of, integer_of, least_num, largest_num, Opening, Inner, parts_opened, tuple_of, variable_opened}
use Rattle.value_indices.specs.Opening.{truth_opened, bits_opened, integer_opened, range_opened, vector_opened, named_opened, bound_inside, form_opened}
use Rattle.value_indices.specs.Opening.{widened_opened, typ_opened, reading_opened, opening, wide_opening, with_openings, opened}
use Rattle.value_laws.proofs.Basics.{fronts}
use Rattle.value_indices.specs.Opening.{opened_for}
use Rattle.note_laws.specs.Ways.{Told}
use Rattle.note_laws.proofs.Goes.{Goes, assume_goes, assume_if_goes, bind_goes, each_goes, fresh_goes, fresh_named_goes, give_goes}

module _ (told : Told) where
  -- ---- numbers and truths

  pub between_goes : (low t high : Num) → Goes told (between low t high)
  unfolding between
  between_goes low t high = bind_goes told _ _ (assume_goes told _) (λ x. assume_goes told _)

  integer_goes : Goes told fresh_integer
  unfolding fresh_integer
  integer_goes =
      bind_goes told _ _ (fresh_goes told)
      (λ v. bind_goes told _ _ (between_goes least_num (variable v) largest_num) (λ x. give_goes told (variable v)))

  pub number_or_fresh_goes : (o : Option Num) → Goes told (number_or_fresh o)
  unfolding number_or_fresh
  number_or_fresh_goes None = integer_goes
  number_or_fresh_goes (Some t) = give_goes told t

  pub truth_or_fresh_goes : (o : Option Con) → Goes told (truth_or_fresh o)
  unfolding truth_or_fresh
  truth_or_fresh_goes None = bind_goes told _ _ (fresh_goes told) (λ p. give_goes told (C.Holds p))
  truth_or_fresh_goes (Some c) = give_goes told c

  index_goes : (kind : Index) (o : Option Index) → Goes told (index_or_fresh kind o)
  unfolding index_or_fresh
  index_goes (N.Number t) (Some i) = give_goes told i
  index_goes (N.Truth c) (Some i) = give_goes told i
  index_goes (N.Number t) None = bind_goes told _ _ (fresh_goes told) (λ v. give_goes told (N.Number (variable v)))
  index_goes (N.Truth c) None = bind_goes told _ _ (fresh_goes told) (λ p. give_goes told (N.Truth (C.Holds p)))

  read_goes : (is : List Index) (i : Index) → Goes told (read_or_fresh is i)
  unfolding read_or_fresh
  read_goes is i = index_goes i (read_index is i)

  each_read_goes : (is args : List Index) → Goes told (each_read is args)
  unfolding each_read
  each_read_goes is args = each_goes told (read_or_fresh is) (read_goes is) args

  naming_goes : (x : Naming-F Naming) → Goes told (named_form x)
  naming_goes (G.Named name) = fresh_named_goes told name
  naming_goes x = fresh_goes told

  fresh_for_goes : (naming : Naming) → Goes told (fresh_for naming)
  unfolding fresh_for
  fresh_for_goes naming = naming_goes (out-Naming naming)

  between_any_goes : (name : Naming) (low high : Option Num) → Goes told (integer_between name low high)
  unfolding integer_between
  between_any_goes name low high =
      bind_goes told _ _ (fresh_for_goes name) (λ v.
      bind_goes told _ _ (assume_if_goes told (bound_below low (variable v))) (λ x.
      bind_goes told _ _ (assume_if_goes told (bound_above (variable v) high)) (λ y. give_goes told (I.Integer (variable v)))))

  pub any_integer_goes : (name : Naming) → Goes told (any_integer name)
  unfolding any_integer
  any_integer_goes name = between_any_goes name (Some least_num) (Some largest_num)

  pub any_truth_goes : (name : Naming) → Goes told (any_truth name)
  unfolding any_truth
  any_truth_goes name = bind_goes told _ _ (fresh_for_goes name) (λ p. give_goes told (I.Truth (C.Holds p)))

  pub bits_of_goes : (t : Num) → Goes told (bits_of t)
  unfolding bits_of
  bits_of_goes t = bind_goes told _ _ (between_goes _ _ _) (λ x. give_goes told (I.Bits t))

  pub vector_of_goes : (r : Reading) (t : Num) → Goes told (vector_of r t)
  unfolding vector_of
  vector_of_goes r t = bind_goes told _ _ (between_goes _ _ _) (λ x. give_goes told (I.Vector t r))

  integer_of_goes : (tells : Bool) (t : Num) → Goes told (integer_of tells t)
  unfolding integer_of
  integer_of_goes tells t = by tells (is_constant t)
    where
      by : (s c : Bool)
          → Goes told (if s then (if c then give (I.Integer t) else bind (between least_num t largest_num) (λ x. give (I.Integer t))) else give
          (I.Integer t))
      by false c = give_goes told (I.Integer t)
      by true true = give_goes told (I.Integer t)
      by true false = bind_goes told _ _ (between_goes least_num t largest_num) (λ x. give_goes told (I.Integer t))

  -- ---- parts

  abbrev OpeningGoes : Opening → Type 0
  OpeningGoes o = (tells : Bool) (name : Naming) → Goes told (o tells name)

  abbrev AllOpen : List Opening → Type 0
  AllOpen [] = Unit {0}
  AllOpen (o ∷ os) = OpeningGoes o × AllOpen os

  parts_go : (tells : Bool) (os : List Opening) → AllOpen os → (ns : List Naming) → Goes told (parts_opened tells os ns)
  parts_go tells [] h ns = give_goes told []
  parts_go tells (o ∷ os) h [] =
      bind_goes told _ _ (h.0 tells M.Unnamed) (λ i. bind_goes told _ _ (parts_go tells os h.1 []) (λ is. give_goes told (i ∷ is)))
  parts_go tells (o ∷ os) h (n ∷ ns) =
      bind_goes told _ _ (h.0 tells n) (λ i. bind_goes told _ _ (parts_go tells os h.1 ns) (λ is. give_goes told (i ∷ is)))

  tuple_goes : (tells : Bool) (name : Naming) (os : List Opening) → AllOpen os → Goes told (tuple_of tells name os)
  tuple_goes tells name os h = bind_goes told _ _ (parts_go tells os h (namings_of name)) (λ is. give_goes told (I.Tuple is))

  -- ---- types

  truth_opened_goes : (is : List Index) (c : Con) → Goes told (truth_opened is c)
  unfolding truth_opened
  truth_opened_goes is c = bind_goes told _ _ (truth_or_fresh_goes (read_con is c)) (λ d. give_goes told (I.Truth d))

  bits_opened_goes : (is : List Index) (t : Num) → Goes told (bits_opened is t)
  unfolding bits_opened
  bits_opened_goes is t = bind_goes told _ _ (number_or_fresh_goes (read is t)) bits_of_goes

  integer_opened_goes : (is : List Index) (tells : Bool) (t : Num) → Goes told (integer_opened is tells t)
  unfolding integer_opened
  integer_opened_goes is tells t = bind_goes told _ _ (number_or_fresh_goes (read is t)) (integer_of_goes tells)

  range_opened_goes : (is : List Index) (name : Naming) (t u : Num) → Goes told (range_opened is name t u)
  unfolding range_opened
  range_opened_goes is name t u = between_any_goes name (read is t) (read is u)

  vector_opened_goes : (is : List Index) (rs : List Reading) (n : Num) (t : Typ) → Goes told (vector_opened is rs n t)
  unfolding vector_opened
  vector_opened_goes is rs n t = bind_goes told _ _ (number_or_fresh_goes (read is n)) (vector_of_goes _)

  named_opened_goes : (is : List Index) (u : ℕ) (args : List Index) (rs : List Reading) → Goes told (named_opened is u args rs)
  unfolding named_opened
  named_opened_goes is u args rs = bind_goes told _ _ (each_read_goes is args) (λ known. give_goes told (I.Named u known rs))

  bound_goes : (own : List ℕ) (c : Con) (is : List Index) → Goes told (bound_inside own c is)
  unfolding bound_inside
  bound_goes own c is =
      bind_goes told _ _ (fresh_named_goes told own) (λ v.
      bind_goes told _ _ (assume_if_goes told (read_con (N.Number (variable v) ∷ is) c)) (λ x. give_goes told (N.Number (variable v) ∷ is)))

  -- what Type variables stand for
  ReadingGoes : Reading → Type 0
  ReadingGoes r = OpeningGoes (opening r)

  abbrev AllRead : List Reading → Type 0
  AllRead [] = Unit {0}
  AllRead (r ∷ rs) = ReadingGoes r × AllRead rs

  variable_goes : (k : ℕ) (rs : List Reading) → AllRead rs → (i : ℕ) (tells : Bool) (name : Naming)
      → Goes told (variable_opened k (slice_get (with_openings rs) i) tells name)
  unfolding ReadingGoes
  variable_goes k [] h i tells name = give_goes told (I.Variable k)
  variable_goes k (r ∷ rs) h zero tells name = h.0 tells name
  variable_goes k (r ∷ rs) h (suc i) tells name = variable_goes k rs h.1 i tells name

  module _ (rs : List Reading) (known : AllRead rs) where
    TypGoes : Typ → Type 0
    TypGoes t = (is : List Index) (tells : Bool) (name : Naming) → Goes told (typ_opened (with_openings rs) t is tells name)

    abbrev SuchTyp : Type 0
    SuchTyp = (t : Typ) × TypGoes t

    abbrev typ_form : Typ-F SuchTyp → Typ-F Typ
    typ_form y = map-Typ SuchTyp Typ (λ p. p.0) y

    abbrev types_in : List SuchTyp → List Typ
    types_in ys = map (λ (y : SuchTyp). y.0) ys

    -- the form of a type, opened
    abbrev opened_form : Typ-F Typ → List Index → Bool → Naming → Walk Indices
    opened_form x is tells name =
        form_opened (with_openings rs) rs (map-Typ Typ (Typ × Inner) (λ t. (t, typ_opened (with_openings rs) t)) x) is tells name

    opens_form : (x : Typ-F Typ) (is : List Index) (tells : Bool) (name : Naming)
        → typ_opened (with_openings rs) (roll-Typ x) is tells name ≡ opened_form x is tells name
    unfolding typ_opened
    opens_form x is tells name =
        ap (λ f. f is tells name) (para-roll-Typ Inner (form_opened (with_openings rs) (map (λ (r : Reading × Opening). r.0) (with_openings rs))) x)
        ∙ ap (λ qs. form_opened (with_openings rs) qs (map-Typ Typ (Typ × Inner) (λ t. (t, typ_opened (with_openings rs) t)) x) is tells name)
        (fronts opening rs)

    typs_go : (ys : List SuchTyp) (is : List Index)
        → AllOpen (map (λ (t : Typ × Inner). t.1 is) (map (λ t. (t, typ_opened (with_openings rs) t)) (types_in ys)))
    unfolding TypGoes
    typs_go [] is = tt
    typs_go (y ∷ ys) is = (y.1 is, typs_go ys is)

    form_goes : (y : Typ-F SuchTyp) (is : List Index) (tells : Bool) (name : Naming) → Goes told (opened_form (typ_form y) is tells name)
    unfolding TypGoes
    form_goes T.Unit is tells name = give_goes told I.Unit
    form_goes T.Bool is tells name = any_truth_goes name
    form_goes (T.Truth c) is tells name = truth_opened_goes is c
    form_goes T.Bit is tells name = give_goes told I.Bit
    form_goes (T.Bits t) is tells name = bits_opened_goes is t
    form_goes (T.Int t) is tells name = integer_opened_goes is tells t
    form_goes (T.Range t u) is tells name = range_opened_goes is name t u
    form_goes T.String is tells name = give_goes told I.String
    form_goes (T.List y) is tells name = give_goes told _
    form_goes (T.Vector n y) is tells name = vector_opened_goes is rs n y.0
    form_goes (T.Tuple ys) is tells name = tuple_goes tells name _ (typs_go ys is)
    form_goes (T.Named u args ys) is tells name = named_opened_goes is u args _
    form_goes (T.Variable i) is tells name = variable_goes i rs known i tells name
    form_goes (T.Exists own c y) is tells name = bind_goes told _ _ (bound_goes own c is) (λ js. y.1 js true name)

    typ_step : (y : Typ-F SuchTyp) → TypGoes (roll-Typ (typ_form y))
    unfolding TypGoes
    typ_step y is tells name =
        subst (λ (w : Walk Indices). Goes told w) (sym (opens_form (typ_form y) is tells name)) (form_goes y is tells name)

    typ_goes : (t : Typ) → TypGoes t
    typ_goes = ind-Typ TypGoes (λ e y same_form. subst (λ d. TypGoes (roll-Typ d)) same_form (typ_step y))

  -- ---- types of the walk

  WideGoes : Indices → Type 0
  WideGoes i = (name : Naming) → Goes told (wide_opening i false name)

  abbrev Wide : Type 0
  Wide = (i : Indices) × WideGoes i

  abbrev Read : Type 0
  Read = (r : Reading) × ReadingGoes r

  abbrev indices_of : Indices-F Wide Read → Indices-F Indices Reading
  indices_of y = map-Indices Wide Read Indices Reading (λ p. p.0) (λ p. p.0) y

  abbrev reading_of : Reading-F Wide Read → Reading-F Indices Reading
  reading_of y = map-Reading Wide Read Indices Reading (λ p. p.0) (λ p. p.0) y

  abbrev wide_form : Indices-F Indices Reading → Naming → Walk Indices
  wide_form x name =
      widened_opened (map-Indices Indices Reading (Indices × Opening) (Reading × Opening) (λ i. (i, wide_opening i)) (λ r. (r, opening r)) x) false name

  widens_form : (x : Indices-F Indices Reading) (name : Naming) → wide_opening (roll-Indices x) false name ≡ wide_form x name
  unfolding wide_opening opening
  widens_form x name = ap (λ o. o false name) (para-roll-Indices Opening Opening widened_opened reading_opened x)

  abbrev reading_form : Reading-F Indices Reading → Bool → Naming → Walk Indices
  reading_form x tells name =
      reading_opened (map-Reading Indices Reading (Indices × Opening) (Reading × Opening) (λ i. (i, wide_opening i)) (λ r. (r, opening r)) x) tells name

  opens_reading : (x : Reading-F Indices Reading) (tells : Bool) (name : Naming) → opening (roll-Reading x) tells name ≡ reading_form x tells name
  unfolding wide_opening opening
  opens_reading x tells name = ap (λ o. o tells name) (para-roll-Reading Opening Opening widened_opened reading_opened x)

  abbrev wides_in : List Wide → List Indices
  wides_in ys = map (λ (y : Wide). y.0) ys

  abbrev readings_in : List Read → List Reading
  readings_in ys = map (λ (y : Read). y.0) ys

  wide_parts_go : (ys : List Wide) (ns : List Naming)
      → Goes told (parts_opened false (map (λ (p : Indices × Opening). p.1) (map (λ i. (i, wide_opening i)) (wides_in ys))) ns)
  unfolding WideGoes
  wide_parts_go [] ns = give_goes told []
  wide_parts_go (y ∷ ys) [] =
      bind_goes told _ _ (y.1 M.Unnamed) (λ i. bind_goes told _ _ (wide_parts_go ys []) (λ is. give_goes told (i ∷ is)))
  wide_parts_go (y ∷ ys) (n ∷ ns) = bind_goes told _ _ (y.1 n) (λ i. bind_goes told _ _ (wide_parts_go ys ns) (λ is. give_goes told (i ∷ is)))

  wide_goes : (y : Indices-F Wide Read) (name : Naming) → Goes told (wide_form (indices_of y) name)
  wide_goes W.Never name = give_goes told I.Never
  wide_goes W.Unit name = give_goes told I.Unit
  wide_goes (W.Truth c) name = any_truth_goes name
  wide_goes W.Bit name = give_goes told I.Bit
  wide_goes (W.Bits t) name = bits_of_goes t
  wide_goes (W.Integer t) name = any_integer_goes name
  wide_goes W.String name = give_goes told I.String
  wide_goes (W.List r) name = give_goes told _
  wide_goes (W.Vector n r) name = vector_of_goes _ n
  wide_goes (W.Tuple ys) name = bind_goes told _ _ (wide_parts_go ys (namings_of name)) (λ is. give_goes told (I.Tuple is))
  wide_goes (W.Named u args ys) name = give_goes told _
  wide_goes (W.Variable i) name = give_goes told (I.Variable i)

  wide_step : (y : Indices-F Wide Read) → WideGoes (roll-Indices (indices_of y))
  unfolding WideGoes
  wide_step y name = subst (λ (w : Walk Indices). Goes told w) (sym (widens_form (indices_of y) name)) (wide_goes y name)

  all_read : (ys : List Read) → AllRead (readings_in ys)
  all_read [] = tt
  all_read (y ∷ ys) = (y.1, all_read ys)

  readings_go : (ys : List Read) → AllOpen (map (λ (r : Reading × Opening). r.1) (map (λ r. (r, opening r)) (readings_in ys)))
  unfolding ReadingGoes
  readings_go [] = tt
  readings_go (y ∷ ys) = (y.1, readings_go ys)

  reading_goes : (y : Reading-F Wide Read) (tells : Bool) (name : Naming) → Goes told (reading_form (reading_of y) tells name)
  unfolding WideGoes TypGoes
  reading_goes (W.Of t is ys) tells name = typ_goes (readings_in ys) (all_read ys) t is tells name
  reading_goes (W.Widened y) tells name = y.1 name
  reading_goes (W.Parts ys) tells name = tuple_goes tells name _ (readings_go ys)
  reading_goes W.Hole tells name = give_goes told I.Never

  reading_step : (y : Reading-F Wide Read) → ReadingGoes (roll-Reading (reading_of y))
  unfolding ReadingGoes
  reading_step y tells name = subst (λ (w : Walk Indices). Goes told w) (sym (opens_reading (reading_of y) tells name)) (reading_goes y tells name)

  each_reading_goes : (r : Reading) → ReadingGoes r
  each_reading_goes = ind-Reading WideGoes ReadingGoes (λ e y same_form. subst (λ d. WideGoes (roll-Indices d)) same_form (wide_step y))
      (λ e y same_form. subst (λ d. ReadingGoes (roll-Reading d)) same_form (reading_step y))

  pub opening_goes : (r : Reading) (tells : Bool) (name : Naming) → Goes told (opening r tells name)
  unfolding ReadingGoes
  opening_goes r tells name = each_reading_goes r tells name

  pub opened_goes : (r : Reading) → Goes told (opened r)
  unfolding opened
  opened_goes r = opening_goes r false M.Unnamed

  pub opened_for_goes : (name : Naming) (r : Reading) → Goes told (opened_for name r)
  unfolding opened_for
  opened_for_goes name r = opening_goes r false name
