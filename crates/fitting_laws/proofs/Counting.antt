-- Opening a type counts its variables on: none from before is taken again.
use Rattle.std.proofs.Common.{◌≡◌, ℕ, zero, suc, ◌≤◌, Bool, true, false, List, [], ◌∷◌, ◌++◌, map, slice_get, Option, Some, None, if◌then◌else◌}
use Rattle.std.proofs.Common.{append_assoc, append-nil, refl, sym, ap, ◌∙◌, subst, arith}
use Rattle.sail_types.specs.Readings.{read_con, read_index}
use Rattle.sail_types.specs.Sums.{is_constant, read, variable}
use Rattle.sail_types.specs.declared.numbers.Con.{Con}
use Rattle.sail_types.specs.declared.numbers.Con.TheVariants as C
use Rattle.sail_types.specs.declared.numbers.Index.{Index}
use Rattle.sail_types.specs.declared.numbers.Index.TheVariants as N
use Rattle.sail_types.specs.declared.numbers.Num.{Num}
use Rattle.sail_types.specs.declared.types.Typ.{Typ, Typ-F, roll-Typ}
use Rattle.sail_types.specs.declared.types.Typ.TheFolds.{para-roll-Typ, map-Typ, ind-Typ}
use Rattle.sail_types.specs.declared.types.Typ.TheOpen as T
use Rattle.value_indices.specs.declared.indices.Indices.{Indices, roll-Indices}
use Rattle.value_indices.specs.declared.indices.Indices.TheFolds.{para-roll-Indices, para-roll-Reading, map-Indices, map-Reading, ind-Reading}
use Rattle.value_indices.specs.declared.indices.Indices.TheOpen as W
use Rattle.value_indices.specs.declared.indices.Indices.TheOpen.{Indices-F, Reading-F}
use Rattle.value_indices.specs.declared.indices.Indices.TheVariants as I
use Rattle.value_indices.specs.declared.indices.Naming.{Naming, Naming-F, out-Naming}
use Rattle.value_indices.specs.declared.indices.Naming.TheVariants as M
use Rattle.value_indices.specs.declared.indices.Naming.TheOpen as G
use Rattle.value_indices.specs.declared.indices.Reading.{Reading, roll-Reading}
use Rattle.value_indices.specs.declared.notes.Fact.{Fact}
use Rattle.value_indices.specs.declared.notes.Fact.TheVariants as Y
use Rattle.value_indices.specs.Steps.{Walk, bind, give, assume, assume_if, fresh, fresh_named, each}
use Rattle.value_indices.specs.Opening.{between, fresh_integer, number_or_fresh, truth_or_fresh, index_or_fresh, read_or_fresh, each_read}
use Rattle.value_indices.specs.Opening.{named_form, fresh_for, namings_of, bound_below, bound_above, integer_between, any_integer, any_truth}
use Rattle.value_indices.specs.Opening.{bits_of, vector_of, integer_of, least_num, largest_num, Opening, Inner, parts_opened, tuple_of, variable_opened}
use Rattle.value_indices.specs.Opening.{truth_opened, bits_opened, integer_opened, range_opened, vector_opened, named_opened, bound_inside, form_opened}
use Rattle.value_indices.specs.Opening.{widened_opened, typ_opened, reading_opened, opening, wide_opening, with_openings, opened}
use Rattle.value_laws.proofs.Basics.{fronts}

pub le_self : (n : ℕ) → n ≤ n
le_self n = omega arith

pub le_on : {a b c : ℕ} → a ≤ b → b ≤ c → a ≤ c
le_on h k = omega (arith, h, k)

-- none is counted back, and what was in force stays so
pub record Grows {A : Type 0} (walk : Walk A) : Type 0 where
  pub onward : (facts : List Fact) (n : ℕ) → n ≤ (walk facts n).next
  -- what comes into force
  pub more : List Fact → ℕ → List Fact
  pub extends : (facts : List Fact) (n : ℕ) → (walk facts n).facts ≡ facts ++ more facts n

-- ---- steps

pub give_grows : {A : Type 0} (x : A) → Grows (give x)
unfolding give
give_grows x = record { onward = λ facts n. le_self n; more = λ facts n. []; extends = λ facts n. sym (append-nil facts) }

pub bind_grows : {A B : Type 0} (w : Walk A) (k : A → Walk B) → Grows w → ((x : A) → Grows (k x)) → Grows (bind w k)
unfolding bind
bind_grows w k first then_more = record {
  onward = λ facts n. le_on (first.onward facts n) ((then_more (w facts n).value).onward (w facts n).facts (w facts n).next);
  more = λ facts n. first.more facts n ++ (then_more (w facts n).value).more (w facts n).facts (w facts n).next;
  extends = λ facts n.
      let behind = (then_more (w facts n).value).more (w facts n).facts (w facts n).next in
      (then_more (w facts n).value).extends (w facts n).facts (w facts n).next
      ∙ ap (λ fs. fs ++ behind) (first.extends facts n)
      ∙ append_assoc facts (first.more facts n) behind;
}

pub assume_grows : (c : Con) → Grows (assume c)
unfolding assume
assume_grows c = record { onward = λ facts n. le_self n; more = λ facts n. Y.Holds c ∷ []; extends = λ facts n. refl }

pub assume_if_grows : (o : Option Con) → Grows (assume_if o)
assume_if_grows None = give_grows tt
assume_if_grows (Some c) = assume_grows c

le_next : (n : ℕ) → n ≤ suc n
le_next n = omega arith

pub fresh_grows : Grows fresh
unfolding fresh
fresh_grows = record { onward = λ facts n. le_next n; more = λ facts n. []; extends = λ facts n. sym (append-nil facts) }

pub fresh_named_grows : (name : List ℕ) → Grows (fresh_named name)
unfolding fresh_named
fresh_named_grows name = record { onward = λ facts n. le_next n; more = λ facts n. []; extends = λ facts n. sym (append-nil facts) }

pub each_grows : {A B : Type 0} (f : A → Walk B) → ((x : A) → Grows (f x)) → (xs : List A) → Grows (each f xs)
each_grows f h [] = give_grows []
each_grows f h (x ∷ xs) = bind_grows (f x) _ (h x) (λ y. bind_grows (each f xs) _ (each_grows f h xs) (λ ys. give_grows (y ∷ ys)))

-- ---- numbers and truths

between_grows : (low t high : Num) → Grows (between low t high)
unfolding between
between_grows low t high = bind_grows _ _ (assume_grows _) (λ x. assume_grows _)

integer_grows : Grows fresh_integer
unfolding fresh_integer
integer_grows = bind_grows _ _ fresh_grows (λ v. bind_grows _ _ (between_grows least_num (variable v) largest_num) (λ x. give_grows (variable v)))

number_grows : (o : Option Num) → Grows (number_or_fresh o)
unfolding number_or_fresh
number_grows None = integer_grows
number_grows (Some t) = give_grows t

truth_grows : (o : Option Con) → Grows (truth_or_fresh o)
unfolding truth_or_fresh
truth_grows None = bind_grows _ _ fresh_grows (λ p. give_grows (C.Holds p))
truth_grows (Some c) = give_grows c

index_grows : (kind : Index) (o : Option Index) → Grows (index_or_fresh kind o)
unfolding index_or_fresh
index_grows (N.Number t) (Some i) = give_grows i
index_grows (N.Truth c) (Some i) = give_grows i
index_grows (N.Number t) None = bind_grows _ _ fresh_grows (λ v. give_grows (N.Number (variable v)))
index_grows (N.Truth c) None = bind_grows _ _ fresh_grows (λ p. give_grows (N.Truth (C.Holds p)))

read_grows : (is : List Index) (i : Index) → Grows (read_or_fresh is i)
unfolding read_or_fresh
read_grows is i = index_grows i (read_index is i)

each_read_grows : (is args : List Index) → Grows (each_read is args)
unfolding each_read
each_read_grows is args = each_grows (read_or_fresh is) (read_grows is) args

naming_grows : (x : Naming-F Naming) → Grows (named_form x)
naming_grows (G.Named name) = fresh_named_grows name
naming_grows x = fresh_grows

fresh_for_grows : (naming : Naming) → Grows (fresh_for naming)
unfolding fresh_for
fresh_for_grows naming = naming_grows (out-Naming naming)

between_any_grows : (name : Naming) (low high : Option Num) → Grows (integer_between name low high)
unfolding integer_between
between_any_grows name low high =
    bind_grows _ _ (fresh_for_grows name) (λ v.
    bind_grows _ _ (assume_if_grows (bound_below low (variable v))) (λ x.
    bind_grows _ _ (assume_if_grows (bound_above (variable v) high)) (λ y. give_grows (I.Integer (variable v)))))

any_integer_grows : (name : Naming) → Grows (any_integer name)
unfolding any_integer
any_integer_grows name = between_any_grows name (Some least_num) (Some largest_num)

any_truth_grows : (name : Naming) → Grows (any_truth name)
unfolding any_truth
any_truth_grows name = bind_grows _ _ (fresh_for_grows name) (λ p. give_grows (I.Truth (C.Holds p)))

bits_grows : (t : Num) → Grows (bits_of t)
unfolding bits_of
bits_grows t = bind_grows _ _ (between_grows _ _ _) (λ x. give_grows (I.Bits t))

vector_grows : (r : Reading) (t : Num) → Grows (vector_of r t)
unfolding vector_of
vector_grows r t = bind_grows _ _ (between_grows _ _ _) (λ x. give_grows (I.Vector t r))

integer_of_grows : (tells : Bool) (t : Num) → Grows (integer_of tells t)
unfolding integer_of
integer_of_grows tells t = by tells (is_constant t)
  where
    by : (s c : Bool)
        → Grows (if s then (if c then give (I.Integer t) else bind (between least_num t largest_num) (λ x. give (I.Integer t))) else give (I.Integer t))
    by false c = give_grows (I.Integer t)
    by true true = give_grows (I.Integer t)
    by true false = bind_grows _ _ (between_grows least_num t largest_num) (λ x. give_grows (I.Integer t))

-- ---- parts

abbrev OpeningGrows : Opening → Type 0
OpeningGrows o = (tells : Bool) (name : Naming) → Grows (o tells name)

abbrev AllGrow : List Opening → Type 0
AllGrow [] = Unit {0}
AllGrow (o ∷ os) = OpeningGrows o × AllGrow os

parts_grow : (tells : Bool) (os : List Opening) → AllGrow os → (ns : List Naming) → Grows (parts_opened tells os ns)
parts_grow tells [] h ns = give_grows []
parts_grow tells (o ∷ os) h [] =
    bind_grows _ _ (h.0 tells M.Unnamed) (λ i. bind_grows _ _ (parts_grow tells os h.1 []) (λ is. give_grows (i ∷ is)))
parts_grow tells (o ∷ os) h (n ∷ ns) = bind_grows _ _ (h.0 tells n) (λ i. bind_grows _ _ (parts_grow tells os h.1 ns) (λ is. give_grows (i ∷ is)))

tuple_grows : (tells : Bool) (name : Naming) (os : List Opening) → AllGrow os → Grows (tuple_of tells name os)
tuple_grows tells name os h = bind_grows _ _ (parts_grow tells os h (namings_of name)) (λ is. give_grows (I.Tuple is))

-- ---- types

truth_opened_grows : (is : List Index) (c : Con) → Grows (truth_opened is c)
unfolding truth_opened
truth_opened_grows is c = bind_grows _ _ (truth_grows (read_con is c)) (λ d. give_grows (I.Truth d))

bits_opened_grows : (is : List Index) (t : Num) → Grows (bits_opened is t)
unfolding bits_opened
bits_opened_grows is t = bind_grows _ _ (number_grows (read is t)) bits_grows

integer_opened_grows : (is : List Index) (tells : Bool) (t : Num) → Grows (integer_opened is tells t)
unfolding integer_opened
integer_opened_grows is tells t = bind_grows _ _ (number_grows (read is t)) (integer_of_grows tells)

range_opened_grows : (is : List Index) (name : Naming) (t u : Num) → Grows (range_opened is name t u)
unfolding range_opened
range_opened_grows is name t u = between_any_grows name (read is t) (read is u)

vector_opened_grows : (is : List Index) (rs : List Reading) (n : Num) (t : Typ) → Grows (vector_opened is rs n t)
unfolding vector_opened
vector_opened_grows is rs n t = bind_grows _ _ (number_grows (read is n)) (vector_grows _)

named_opened_grows : (is : List Index) (u : ℕ) (args : List Index) (rs : List Reading) → Grows (named_opened is u args rs)
unfolding named_opened
named_opened_grows is u args rs = bind_grows _ _ (each_read_grows is args) (λ known. give_grows (I.Named u known rs))

bound_grows : (own : List ℕ) (c : Con) (is : List Index) → Grows (bound_inside own c is)
unfolding bound_inside
bound_grows own c is =
    bind_grows _ _ (fresh_named_grows own) (λ v.
    bind_grows _ _ (assume_if_grows (read_con (N.Number (variable v) ∷ is) c)) (λ x. give_grows (N.Number (variable v) ∷ is)))

-- what Type variables stand for
ReadingGrows : Reading → Type 0
ReadingGrows r = OpeningGrows (opening r)

abbrev AllRead : List Reading → Type 0
AllRead [] = Unit {0}
AllRead (r ∷ rs) = ReadingGrows r × AllRead rs

variable_grows : (k : ℕ) (rs : List Reading) → AllRead rs → (i : ℕ) (tells : Bool) (name : Naming)
    → Grows (variable_opened k (slice_get (with_openings rs) i) tells name)
unfolding ReadingGrows
variable_grows k [] h i tells name = give_grows (I.Variable k)
variable_grows k (r ∷ rs) h zero tells name = h.0 tells name
variable_grows k (r ∷ rs) h (suc i) tells name = variable_grows k rs h.1 i tells name

module _ (rs : List Reading) (known : AllRead rs) where
  TypGrows : Typ → Type 0
  TypGrows t = (is : List Index) (tells : Bool) (name : Naming) → Grows (typ_opened (with_openings rs) t is tells name)

  abbrev SuchTyp : Type 0
  SuchTyp = (t : Typ) × TypGrows t

  abbrev typ_form : Typ-F SuchTyp → Typ-F Typ
  typ_form y = map-Typ SuchTyp Typ (λ p. p.0) y

  abbrev types_in : List SuchTyp → List Typ
  types_in ys = map (λ (y : SuchTyp). y.0) ys

  -- the form of a type, opened
  abbrev opened_form : Typ-F Typ → List Index → Bool → Naming → Walk Indices
  opened_form x is tells name =
      form_opened (with_openings rs) rs (map-Typ Typ (Typ × Inner) (λ t. (t, typ_opened (with_openings rs) t)) x) is tells name

  opens_form : (x : Typ-F Typ) (is : List Index) (tells : Bool) (name : Naming)
      → typ_opened (with_openings rs) (roll-Typ x) is tells name ≡ opened_form x is tells name
  unfolding typ_opened
  opens_form x is tells name =
      ap (λ f. f is tells name) (para-roll-Typ Inner (form_opened (with_openings rs) (map (λ (r : Reading × Opening). r.0) (with_openings rs))) x)
      ∙ ap (λ qs. form_opened (with_openings rs) qs (map-Typ Typ (Typ × Inner) (λ t. (t, typ_opened (with_openings rs) t)) x) is tells name)
      (fronts opening rs)

  typs_grow : (ys : List SuchTyp) (is : List Index)
      → AllGrow (map (λ (t : Typ × Inner). t.1 is) (map (λ t. (t, typ_opened (with_openings rs) t)) (types_in ys)))
  unfolding TypGrows
  typs_grow [] is = tt
  typs_grow (y ∷ ys) is = (y.1 is, typs_grow ys is)

  form_grows : (y : Typ-F SuchTyp) (is : List Index) (tells : Bool) (name : Naming) → Grows (opened_form (typ_form y) is tells name)
  unfolding TypGrows
  form_grows T.Unit is tells name = give_grows I.Unit
  form_grows T.Bool is tells name = any_truth_grows name
  form_grows (T.Truth c) is tells name = truth_opened_grows is c
  form_grows T.Bit is tells name = give_grows I.Bit
  form_grows (T.Bits t) is tells name = bits_opened_grows is t
  form_grows (T.Int t) is tells name = integer_opened_grows is tells t
  form_grows (T.Range t u) is tells name = range_opened_grows is name t u
  form_grows T.String is tells name = give_grows I.String
  form_grows (T.List y) is tells name = give_grows _
  form_grows (T.Vector n y) is tells name = vector_opened_grows is rs n y.0
  form_grows (T.Tuple ys) is tells name = tuple_grows tells name _ (typs_grow ys is)
  form_grows (T.Named u args ys) is tells name = named_opened_grows is u args _
  form_grows (T.Variable i) is tells name = variable_grows i rs known i tells name
  form_grows (T.Exists own c y) is tells name = bind_grows _ _ (bound_grows own c is) (λ js. y.1 js true name)

  typ_step : (y : Typ-F SuchTyp) → TypGrows (roll-Typ (typ_form y))
  unfolding TypGrows
  typ_step y is tells name =
      subst (λ (w : Walk Indices). Grows w) (sym (opens_form (typ_form y) is tells name)) (form_grows y is tells name)

  typ_grows : (t : Typ) → TypGrows t
  typ_grows = ind-Typ TypGrows (λ e y same_form. subst (λ d. TypGrows (roll-Typ d)) same_form (typ_step y))

-- ---- types of the walk

WideGrows : Indices → Type 0
WideGrows i = (name : Naming) → Grows (wide_opening i false name)

abbrev Wide : Type 0
Wide = (i : Indices) × WideGrows i

abbrev Read : Type 0
Read = (r : Reading) × ReadingGrows r

abbrev indices_of : Indices-F Wide Read → Indices-F Indices Reading
indices_of y = map-Indices Wide Read Indices Reading (λ p. p.0) (λ p. p.0) y

abbrev reading_of : Reading-F Wide Read → Reading-F Indices Reading
reading_of y = map-Reading Wide Read Indices Reading (λ p. p.0) (λ p. p.0) y

abbrev wide_form : Indices-F Indices Reading → Naming → Walk Indices
wide_form x name =
    widened_opened (map-Indices Indices Reading (Indices × Opening) (Reading × Opening) (λ i. (i, wide_opening i)) (λ r. (r, opening r)) x) false name

widens_form : (x : Indices-F Indices Reading) (name : Naming) → wide_opening (roll-Indices x) false name ≡ wide_form x name
unfolding wide_opening opening
widens_form x name = ap (λ o. o false name) (para-roll-Indices Opening Opening widened_opened reading_opened x)

abbrev reading_form : Reading-F Indices Reading → Bool → Naming → Walk Indices
reading_form x tells name =
    reading_opened (map-Reading Indices Reading (Indices × Opening) (Reading × Opening) (λ i. (i, wide_opening i)) (λ r. (r, opening r)) x) tells name

opens_reading : (x : Reading-F Indices Reading) (tells : Bool) (name : Naming) → opening (roll-Reading x) tells name ≡ reading_form x tells name
unfolding wide_opening opening
opens_reading x tells name = ap (λ o. o tells name) (para-roll-Reading Opening Opening widened_opened reading_opened x)

abbrev wides_in : List Wide → List Indices
wides_in ys = map (λ (y : Wide). y.0) ys

abbrev readings_in : List Read → List Reading
readings_in ys = map (λ (y : Read). y.0) ys

wide_parts_grow : (ys : List Wide) (ns : List Naming)
    → Grows (parts_opened false (map (λ (p : Indices × Opening). p.1) (map (λ i. (i, wide_opening i)) (wides_in ys))) ns)
unfolding WideGrows
wide_parts_grow [] ns = give_grows []
wide_parts_grow (y ∷ ys) [] =
    bind_grows _ _ (y.1 M.Unnamed) (λ i. bind_grows _ _ (wide_parts_grow ys []) (λ is. give_grows (i ∷ is)))
wide_parts_grow (y ∷ ys) (n ∷ ns) = bind_grows _ _ (y.1 n) (λ i. bind_grows _ _ (wide_parts_grow ys ns) (λ is. give_grows (i ∷ is)))

wide_grows : (y : Indices-F Wide Read) (name : Naming) → Grows (wide_form (indices_of y) name)
wide_grows W.Never name = give_grows I.Never
wide_grows W.Unit name = give_grows I.Unit
wide_grows (W.Truth c) name = any_truth_grows name
wide_grows W.Bit name = give_grows I.Bit
wide_grows (W.Bits t) name = bits_grows t
wide_grows (W.Integer t) name = any_integer_grows name
wide_grows W.String name = give_grows I.String
wide_grows (W.List r) name = give_grows _
wide_grows (W.Vector n r) name = vector_grows _ n
wide_grows (W.Tuple ys) name = bind_grows _ _ (wide_parts_grow ys (namings_of name)) (λ is. give_grows (I.Tuple is))
wide_grows (W.Named u args ys) name = give_grows _
wide_grows (W.Variable i) name = give_grows (I.Variable i)

wide_step : (y : Indices-F Wide Read) → WideGrows (roll-Indices (indices_of y))
unfolding WideGrows
wide_step y name = subst (λ (w : Walk Indices). Grows w) (sym (widens_form (indices_of y) name)) (wide_grows y name)

all_read : (ys : List Read) → AllRead (readings_in ys)
all_read [] = tt
all_read (y ∷ ys) = (y.1, all_read ys)

readings_grow : (ys : List Read) → AllGrow (map (λ (r : Reading × Opening). r.1) (map (λ r. (r, opening r)) (readings_in ys)))
unfolding ReadingGrows
readings_grow [] = tt
readings_grow (y ∷ ys) = (y.1, readings_grow ys)

reading_grows : (y : Reading-F Wide Read) (tells : Bool) (name : Naming) → Grows (reading_form (reading_of y) tells name)
unfolding WideGrows TypGrows
reading_grows (W.Of t is ys) tells name = typ_grows (readings_in ys) (all_read ys) t is tells name
reading_grows (W.Widened y) tells name = y.1 name
reading_grows (W.Parts ys) tells name = tuple_grows tells name _ (readings_grow ys)
reading_grows W.Hole tells name = give_grows I.Never

reading_step : (y : Reading-F Wide Read) → ReadingGrows (roll-Reading (reading_of y))
unfolding ReadingGrows
reading_step y tells name = subst (λ (w : Walk Indices). Grows w) (sym (opens_reading (reading_of y) tells name)) (reading_grows y tells name)

each_reading_grows : (r : Reading) → ReadingGrows r
each_reading_grows = ind-Reading WideGrows ReadingGrows (λ e y same_form. subst (λ d. WideGrows (roll-Indices d)) same_form (wide_step y))
    (λ e y same_form. subst (λ d. ReadingGrows (roll-Reading d)) same_form (reading_step y))

pub opening_grows : (r : Reading) (tells : Bool) (name : Naming) → Grows (opening r tells name)
unfolding ReadingGrows
opening_grows r tells name = each_reading_grows r tells name

pub opened_grows : (r : Reading) → Grows (opened r)
unfolding opened
opened_grows r = opening_grows r false M.Unnamed
