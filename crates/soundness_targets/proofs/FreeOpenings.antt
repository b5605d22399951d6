-- Opening a type hangs on no facts, and notes no number.
use Rattle.std.proofs.Common.{◌≡◌, ℕ, zero, suc, Bool, true, false, List, [], ◌∷◌, map, slice_get, Option, Some, None, if◌then◌else◌}
use Rattle.std.proofs.Common.{sym, ap, ◌∙◌, subst}
use Rattle.sail_types.specs.Readings.{read_con, read_index}
use Rattle.sail_types.specs.Sums.{is_constant, read, variable}
use Rattle.sail_types.specs.declared.numbers.Con.{Con}
use Rattle.sail_types.specs.declared.numbers.Con.TheVariants as C
use Rattle.sail_types.specs.declared.numbers.Index.{Index}
use Rattle.sail_types.specs.declared.numbers.Index.TheVariants as N
use Rattle.sail_types.specs.declared.numbers.Num.{Num}
use Rattle.sail_types.specs.declared.types.Typ.{Typ, Typ-F, roll-Typ}
use Rattle.sail_types.specs.declared.types.Typ.TheFolds.{para-roll-Typ, map-Typ, ind-Typ}
use Rattle.sail_types.specs.declared.types.Typ.TheOpen as T
use Rattle.value_indices.specs.declared.indices.Indices.{Indices, roll-Indices}
use Rattle.value_indices.specs.declared.indices.Indices.TheFolds.{para-roll-Indices, para-roll-Reading, map-Indices, map-Reading, ind-Reading}
use Rattle.value_indices.specs.declared.indices.Indices.TheOpen as W
use Rattle.value_indices.specs.declared.indices.Indices.TheOpen.{Indices-F, Reading-F}
use Rattle.value_indices.specs.declared.indices.Indices.TheVariants as I
use Rattle.value_indices.specs.declared.indices.Naming.{Naming, Naming-F, out-Naming}
use Rattle.value_indices.specs.declared.indices.Naming.TheVariants as M
use Rattle.value_indices.specs.declared.indices.Naming.TheOpen as G
use Rattle.value_indices.specs.declared.indices.Reading.{Reading, roll-Reading}
use Rattle.value_indices.specs.Steps.{Walk, bind, give}
use Rattle.value_indices.specs.Opening.{between, fresh_integer, number_or_fresh, truth_or_fresh, index_or_fresh, read_or_fresh, each_read}
use Rattle.value_indices.specs.Opening.{named_form, fresh_for, namings_of, bound_below, bound_above, integer_between, any_integer, any_truth}
use Rattle.value_indices.specs.Opening.{bits_of, vector_of, integer_of, least_num, largest_num, Opening, Inner, parts_opened, tuple_of, variable_opened}
use Rattle.value_indices.specs.Opening.{truth_opened, bits_opened, integer_opened, range_opened, vector_opened, named_opened, bound_inside, form_opened}
use Rattle.value_indices.specs.Opening.{widened_opened, typ_opened, reading_opened, opening, wide_opening, with_openings, opened}
use Rattle.value_laws.proofs.Basics.{fronts}
use Rattle.soundness_targets.proofs.FreeWalks.{Quiet, assume_quiet, assume_if_quiet, bind_quiet, each_quiet, fresh_quiet, fresh_named_quiet, give_quiet}

-- ---- numbers and truths

pub between_quiet : (low t high : Num) → Quiet (between low t high)
unfolding between
between_quiet low t high = bind_quiet _ _ (assume_quiet _) (λ x. assume_quiet _)

integer_quiet : Quiet fresh_integer
unfolding fresh_integer
integer_quiet = bind_quiet _ _ fresh_quiet (λ v. bind_quiet _ _ (between_quiet least_num (variable v) largest_num) (λ x. give_quiet (variable v)))

pub number_quiet : (o : Option Num) → Quiet (number_or_fresh o)
unfolding number_or_fresh
number_quiet None = integer_quiet
number_quiet (Some t) = give_quiet t

pub truth_quiet : (o : Option Con) → Quiet (truth_or_fresh o)
unfolding truth_or_fresh
truth_quiet None = bind_quiet _ _ fresh_quiet (λ p. give_quiet (C.Holds p))
truth_quiet (Some c) = give_quiet c

index_quiet : (kind : Index) (o : Option Index) → Quiet (index_or_fresh kind o)
unfolding index_or_fresh
index_quiet (N.Number t) (Some i) = give_quiet i
index_quiet (N.Truth c) (Some i) = give_quiet i
index_quiet (N.Number t) None = bind_quiet _ _ fresh_quiet (λ v. give_quiet (N.Number (variable v)))
index_quiet (N.Truth c) None = bind_quiet _ _ fresh_quiet (λ p. give_quiet (N.Truth (C.Holds p)))

read_quiet : (is : List Index) (i : Index) → Quiet (read_or_fresh is i)
unfolding read_or_fresh
read_quiet is i = index_quiet i (read_index is i)

each_read_quiet : (is args : List Index) → Quiet (each_read is args)
unfolding each_read
each_read_quiet is args = each_quiet (read_or_fresh is) (read_quiet is) args

naming_quiet : (x : Naming-F Naming) → Quiet (named_form x)
naming_quiet (G.Named name) = fresh_named_quiet name
naming_quiet x = fresh_quiet

fresh_for_quiet : (naming : Naming) → Quiet (fresh_for naming)
unfolding fresh_for
fresh_for_quiet naming = naming_quiet (out-Naming naming)

between_any_quiet : (name : Naming) (low high : Option Num) → Quiet (integer_between name low high)
unfolding integer_between
between_any_quiet name low high =
    bind_quiet _ _ (fresh_for_quiet name) (λ v.
    bind_quiet _ _ (assume_if_quiet (bound_below low (variable v))) (λ x.
    bind_quiet _ _ (assume_if_quiet (bound_above (variable v) high)) (λ y. give_quiet (I.Integer (variable v)))))

any_integer_quiet : (name : Naming) → Quiet (any_integer name)
unfolding any_integer
any_integer_quiet name = between_any_quiet name (Some least_num) (Some largest_num)

pub any_truth_quiet : (name : Naming) → Quiet (any_truth name)
unfolding any_truth
any_truth_quiet name = bind_quiet _ _ (fresh_for_quiet name) (λ p. give_quiet (I.Truth (C.Holds p)))

bits_quiet : (t : Num) → Quiet (bits_of t)
unfolding bits_of
bits_quiet t = bind_quiet _ _ (between_quiet _ _ _) (λ x. give_quiet (I.Bits t))

vector_quiet : (r : Reading) (t : Num) → Quiet (vector_of r t)
unfolding vector_of
vector_quiet r t = bind_quiet _ _ (between_quiet _ _ _) (λ x. give_quiet (I.Vector t r))

integer_of_quiet : (tells : Bool) (t : Num) → Quiet (integer_of tells t)
unfolding integer_of
integer_of_quiet tells t = by tells (is_constant t)
  where
    by : (s c : Bool)
        → Quiet (if s then (if c then give (I.Integer t) else bind (between least_num t largest_num) (λ x. give (I.Integer t))) else give (I.Integer t))
    by false c = give_quiet (I.Integer t)
    by true true = give_quiet (I.Integer t)
    by true false = bind_quiet _ _ (between_quiet least_num t largest_num) (λ x. give_quiet (I.Integer t))

-- ---- parts

abbrev OpeningFree : Opening → Type 0
OpeningFree o = (tells : Bool) (name : Naming) → Quiet (o tells name)

abbrev AllFree : List Opening → Type 0
AllFree [] = Unit {0}
AllFree (o ∷ os) = OpeningFree o × AllFree os

parts_quiet : (tells : Bool) (os : List Opening) → AllFree os → (ns : List Naming) → Quiet (parts_opened tells os ns)
parts_quiet tells [] h ns = give_quiet []
parts_quiet tells (o ∷ os) h [] =
    bind_quiet _ _ (h.0 tells M.Unnamed) (λ i. bind_quiet _ _ (parts_quiet tells os h.1 []) (λ is. give_quiet (i ∷ is)))
parts_quiet tells (o ∷ os) h (n ∷ ns) = bind_quiet _ _ (h.0 tells n) (λ i. bind_quiet _ _ (parts_quiet tells os h.1 ns) (λ is. give_quiet (i ∷ is)))

tuple_quiet : (tells : Bool) (name : Naming) (os : List Opening) → AllFree os → Quiet (tuple_of tells name os)
tuple_quiet tells name os h = bind_quiet _ _ (parts_quiet tells os h (namings_of name)) (λ is. give_quiet (I.Tuple is))

-- ---- types

truth_opened_quiet : (is : List Index) (c : Con) → Quiet (truth_opened is c)
unfolding truth_opened
truth_opened_quiet is c = bind_quiet _ _ (truth_quiet (read_con is c)) (λ d. give_quiet (I.Truth d))

bits_opened_quiet : (is : List Index) (t : Num) → Quiet (bits_opened is t)
unfolding bits_opened
bits_opened_quiet is t = bind_quiet _ _ (number_quiet (read is t)) bits_quiet

integer_opened_quiet : (is : List Index) (tells : Bool) (t : Num) → Quiet (integer_opened is tells t)
unfolding integer_opened
integer_opened_quiet is tells t = bind_quiet _ _ (number_quiet (read is t)) (integer_of_quiet tells)

range_opened_quiet : (is : List Index) (name : Naming) (t u : Num) → Quiet (range_opened is name t u)
unfolding range_opened
range_opened_quiet is name t u = between_any_quiet name (read is t) (read is u)

vector_opened_quiet : (is : List Index) (rs : List Reading) (n : Num) (t : Typ) → Quiet (vector_opened is rs n t)
unfolding vector_opened
vector_opened_quiet is rs n t = bind_quiet _ _ (number_quiet (read is n)) (vector_quiet _)

named_opened_quiet : (is : List Index) (u : ℕ) (args : List Index) (rs : List Reading) → Quiet (named_opened is u args rs)
unfolding named_opened
named_opened_quiet is u args rs = bind_quiet _ _ (each_read_quiet is args) (λ known. give_quiet (I.Named u known rs))

bound_quiet : (own : List ℕ) (c : Con) (is : List Index) → Quiet (bound_inside own c is)
unfolding bound_inside
bound_quiet own c is =
    bind_quiet _ _ (fresh_named_quiet own) (λ v.
    bind_quiet _ _ (assume_if_quiet (read_con (N.Number (variable v) ∷ is) c)) (λ x. give_quiet (N.Number (variable v) ∷ is)))

-- what Type variables stand for
ReadingFree : Reading → Type 0
ReadingFree r = OpeningFree (opening r)

abbrev AllRead : List Reading → Type 0
AllRead [] = Unit {0}
AllRead (r ∷ rs) = ReadingFree r × AllRead rs

variable_quiet : (k : ℕ) (rs : List Reading) → AllRead rs → (i : ℕ) (tells : Bool) (name : Naming)
    → Quiet (variable_opened k (slice_get (with_openings rs) i) tells name)
unfolding ReadingFree
variable_quiet k [] h i tells name = give_quiet (I.Variable k)
variable_quiet k (r ∷ rs) h zero tells name = h.0 tells name
variable_quiet k (r ∷ rs) h (suc i) tells name = variable_quiet k rs h.1 i tells name

module _ (rs : List Reading) (known : AllRead rs) where
  TypFree : Typ → Type 0
  TypFree t = (is : List Index) (tells : Bool) (name : Naming) → Quiet (typ_opened (with_openings rs) t is tells name)

  abbrev SuchTyp : Type 0
  SuchTyp = (t : Typ) × TypFree t

  abbrev typ_form : Typ-F SuchTyp → Typ-F Typ
  typ_form y = map-Typ SuchTyp Typ (λ p. p.0) y

  abbrev types_in : List SuchTyp → List Typ
  types_in ys = map (λ (y : SuchTyp). y.0) ys

  -- the form of a type, opened
  abbrev opened_form : Typ-F Typ → List Index → Bool → Naming → Walk Indices
  opened_form x is tells name =
      form_opened (with_openings rs) rs (map-Typ Typ (Typ × Inner) (λ t. (t, typ_opened (with_openings rs) t)) x) is tells name

  opens_form : (x : Typ-F Typ) (is : List Index) (tells : Bool) (name : Naming)
      → typ_opened (with_openings rs) (roll-Typ x) is tells name ≡ opened_form x is tells name
  unfolding typ_opened
  opens_form x is tells name =
      ap (λ f. f is tells name) (para-roll-Typ Inner (form_opened (with_openings rs) (map (λ (r : Reading × Opening). r.0) (with_openings rs))) x)
      ∙ ap (λ qs. form_opened (with_openings rs) qs (map-Typ Typ (Typ × Inner) (λ t. (t, typ_opened (with_openings rs) t)) x) is tells name)
      (fronts opening rs)

  typs_quiet : (ys : List SuchTyp) (is : List Index)
      → AllFree (map (λ (t : Typ × Inner). t.1 is) (map (λ t. (t, typ_opened (with_openings rs) t)) (types_in ys)))
  unfolding TypFree
  typs_quiet [] is = tt
  typs_quiet (y ∷ ys) is = (y.1 is, typs_quiet ys is)

  form_quiet : (y : Typ-F SuchTyp) (is : List Index) (tells : Bool) (name : Naming) → Quiet (opened_form (typ_form y) is tells name)
  unfolding TypFree
  form_quiet T.Unit is tells name = give_quiet I.Unit
  form_quiet T.Bool is tells name = any_truth_quiet name
  form_quiet (T.Truth c) is tells name = truth_opened_quiet is c
  form_quiet T.Bit is tells name = give_quiet I.Bit
  form_quiet (T.Bits t) is tells name = bits_opened_quiet is t
  form_quiet (T.Int t) is tells name = integer_opened_quiet is tells t
  form_quiet (T.Range t u) is tells name = range_opened_quiet is name t u
  form_quiet T.String is tells name = give_quiet I.String
  form_quiet (T.List y) is tells name = give_quiet _
  form_quiet (T.Vector n y) is tells name = vector_opened_quiet is rs n y.0
  form_quiet (T.Tuple ys) is tells name = tuple_quiet tells name _ (typs_quiet ys is)
  form_quiet (T.Named u args ys) is tells name = named_opened_quiet is u args _
  form_quiet (T.Variable i) is tells name = variable_quiet i rs known i tells name
  form_quiet (T.Exists own c y) is tells name = bind_quiet _ _ (bound_quiet own c is) (λ js. y.1 js true name)

  typ_step : (y : Typ-F SuchTyp) → TypFree (roll-Typ (typ_form y))
  unfolding TypFree
  typ_step y is tells name =
      subst (λ (w : Walk Indices). Quiet w) (sym (opens_form (typ_form y) is tells name)) (form_quiet y is tells name)

  typ_quiet : (t : Typ) → TypFree t
  typ_quiet = ind-Typ TypFree (λ e y same_form. subst (λ d. TypFree (roll-Typ d)) same_form (typ_step y))

-- ---- types of the walk

WideFree : Indices → Type 0
WideFree i = (name : Naming) → Quiet (wide_opening i false name)

abbrev Wide : Type 0
Wide = (i : Indices) × WideFree i

abbrev Read : Type 0
Read = (r : Reading) × ReadingFree r

abbrev indices_of : Indices-F Wide Read → Indices-F Indices Reading
indices_of y = map-Indices Wide Read Indices Reading (λ p. p.0) (λ p. p.0) y

abbrev reading_of : Reading-F Wide Read → Reading-F Indices Reading
reading_of y = map-Reading Wide Read Indices Reading (λ p. p.0) (λ p. p.0) y

abbrev wide_form : Indices-F Indices Reading → Naming → Walk Indices
wide_form x name =
    widened_opened (map-Indices Indices Reading (Indices × Opening) (Reading × Opening) (λ i. (i, wide_opening i)) (λ r. (r, opening r)) x) false name

widens_form : (x : Indices-F Indices Reading) (name : Naming) → wide_opening (roll-Indices x) false name ≡ wide_form x name
unfolding wide_opening opening
widens_form x name = ap (λ o. o false name) (para-roll-Indices Opening Opening widened_opened reading_opened x)

abbrev reading_form : Reading-F Indices Reading → Bool → Naming → Walk Indices
reading_form x tells name =
    reading_opened (map-Reading Indices Reading (Indices × Opening) (Reading × Opening) (λ i. (i, wide_opening i)) (λ r. (r, opening r)) x) tells name

opens_reading : (x : Reading-F Indices Reading) (tells : Bool) (name : Naming) → opening (roll-Reading x) tells name ≡ reading_form x tells name
unfolding wide_opening opening
opens_reading x tells name = ap (λ o. o tells name) (para-roll-Reading Opening Opening widened_opened reading_opened x)

abbrev wides_in : List Wide → List Indices
wides_in ys = map (λ (y : Wide). y.0) ys

abbrev readings_in : List Read → List Reading
readings_in ys = map (λ (y : Read). y.0) ys

wide_parts_quiet : (ys : List Wide) (ns : List Naming)
    → Quiet (parts_opened false (map (λ (p : Indices × Opening). p.1) (map (λ i. (i, wide_opening i)) (wides_in ys))) ns)
unfolding WideFree
wide_parts_quiet [] ns = give_quiet []
wide_parts_quiet (y ∷ ys) [] =
    bind_quiet _ _ (y.1 M.Unnamed) (λ i. bind_quiet _ _ (wide_parts_quiet ys []) (λ is. give_quiet (i ∷ is)))
wide_parts_quiet (y ∷ ys) (n ∷ ns) = bind_quiet _ _ (y.1 n) (λ i. bind_quiet _ _ (wide_parts_quiet ys ns) (λ is. give_quiet (i ∷ is)))

wide_quiet : (y : Indices-F Wide Read) (name : Naming) → Quiet (wide_form (indices_of y) name)
wide_quiet W.Never name = give_quiet I.Never
wide_quiet W.Unit name = give_quiet I.Unit
wide_quiet (W.Truth c) name = any_truth_quiet name
wide_quiet W.Bit name = give_quiet I.Bit
wide_quiet (W.Bits t) name = bits_quiet t
wide_quiet (W.Integer t) name = any_integer_quiet name
wide_quiet W.String name = give_quiet I.String
wide_quiet (W.List r) name = give_quiet _
wide_quiet (W.Vector n r) name = vector_quiet _ n
wide_quiet (W.Tuple ys) name = bind_quiet _ _ (wide_parts_quiet ys (namings_of name)) (λ is. give_quiet (I.Tuple is))
wide_quiet (W.Named u args ys) name = give_quiet _
wide_quiet (W.Variable i) name = give_quiet (I.Variable i)

wide_step : (y : Indices-F Wide Read) → WideFree (roll-Indices (indices_of y))
unfolding WideFree
wide_step y name = subst (λ (w : Walk Indices). Quiet w) (sym (widens_form (indices_of y) name)) (wide_quiet y name)

all_read : (ys : List Read) → AllRead (readings_in ys)
all_read [] = tt
all_read (y ∷ ys) = (y.1, all_read ys)

readings_quiet : (ys : List Read) → AllFree (map (λ (r : Reading × Opening). r.1) (map (λ r. (r, opening r)) (readings_in ys)))
unfolding ReadingFree
readings_quiet [] = tt
readings_quiet (y ∷ ys) = (y.1, readings_quiet ys)

reading_quiet : (y : Reading-F Wide Read) (tells : Bool) (name : Naming) → Quiet (reading_form (reading_of y) tells name)
unfolding WideFree TypFree
reading_quiet (W.Of t is ys) tells name = typ_quiet (readings_in ys) (all_read ys) t is tells name
reading_quiet (W.Widened y) tells name = y.1 name
reading_quiet (W.Parts ys) tells name = tuple_quiet tells name _ (readings_quiet ys)
reading_quiet W.Hole tells name = give_quiet I.Never

reading_step : (y : Reading-F Wide Read) → ReadingFree (roll-Reading (reading_of y))
unfolding ReadingFree
reading_step y tells name = subst (λ (w : Walk Indices). Quiet w) (sym (opens_reading (reading_of y) tells name)) (reading_quiet y tells name)

each_reading_quiet : (r : Reading) → ReadingFree r
each_reading_quiet = ind-Reading WideFree ReadingFree (λ e y same_form. subst (λ d. WideFree (roll-Indices d)) same_form (wide_step y))
    (λ e y same_form. subst (λ d. ReadingFree (roll-Reading d)) same_form (reading_step y))

pub opening_quiet : (r : Reading) (tells : Bool) (name : Naming) → Quiet (opening r tells name)
unfolding ReadingFree
opening_quiet r tells name = each_reading_quiet r tells name

pub opened_quiet : (r : Reading) → Quiet (opened r)
unfolding opened
opened_quiet r = opening_quiet r false M.Unnamed
