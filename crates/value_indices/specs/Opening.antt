-- What is known of a value of a type (Sail language manual, "Type variables", "Numeric types"): its numbers, with fresh variables for those
-- that the type leaves open, and facts on them.
use Rattle.std.specs.Prelude.{ℕ, pos, Bool, true, false, List, [], ◌∷◌, map, slice_get, Option, Some, None, option_map, if◌then◌else◌}
use Rattle.sail_types.specs.Readings.{read_con, read_index}
use Rattle.sail_types.specs.Sums.{constant, is_constant, read, variable}
use Rattle.sail_types.specs.declared.numbers.Con.{Con}
use Rattle.sail_types.specs.declared.numbers.Con.TheVariants as C
use Rattle.sail_types.specs.declared.numbers.Comparison.TheVariants as Is
use Rattle.sail_types.specs.declared.numbers.Index.{Index}
use Rattle.sail_types.specs.declared.numbers.Index.TheVariants as N
use Rattle.sail_types.specs.declared.numbers.Num.{Num}
use Rattle.sail_types.specs.declared.types.Typ.{Typ, Typ-F}
use Rattle.sail_types.specs.declared.types.Typ.TheFolds.{para-Typ}
use Rattle.sail_types.specs.declared.types.Typ.TheOpen as T
use Rattle.sail_core.specs.Formulas.{least, most}
use Rattle.value_indices.specs.declared.indices.Indices.{Indices}
use Rattle.value_indices.specs.declared.indices.Indices.TheVariants as I
use Rattle.value_indices.specs.declared.indices.Indices.TheOpen as W
use Rattle.value_indices.specs.declared.indices.Indices.TheOpen.{Indices-F, Reading-F}
use Rattle.value_indices.specs.declared.indices.Reading.{Reading}
use Rattle.value_indices.specs.declared.indices.Indices.TheFolds.{para-Indices, para-Reading}
use Rattle.value_indices.specs.declared.indices.Reading.TheVariants as R
use Rattle.value_indices.specs.declared.indices.Naming.{Naming, Naming-F, out-Naming}
use Rattle.value_indices.specs.declared.indices.Naming.TheVariants as M
use Rattle.value_indices.specs.declared.indices.Naming.TheOpen as G
use Rattle.value_indices.specs.Steps.{Walk, bind, give, assume, assume_if, fresh, fresh_named, each}

-- ---- conditions on numbers

abbrev pub at_most : Num → Num → Con
at_most t u = C.Compare Is.LessEqual t u

abbrev pub equal : Num → Num → Con
equal t u = C.Compare Is.Equal t u

abbrev pub largest_num : Num
largest_num = constant most

abbrev pub least_num : Num
least_num = constant least

-- the lower bound first, each a fact of its own
unfoldable pub between : Num → Num → Num → Walk (Unit {0})
between low t high = bind (assume (at_most low t)) (λ x. assume (at_most t high))

-- ---- numbers and truths, and in the place of such as can't be said a fresh variable

unfoldable pub fresh_integer : Walk Num
fresh_integer = bind fresh (λ v. bind (between least_num (variable v) largest_num) (λ x. give (variable v)))

unfoldable pub number_or_fresh : Option Num → Walk Num
number_or_fresh None = fresh_integer
number_or_fresh (Some t) = give t

unfoldable pub truth_or_fresh : Option Con → Walk Con
truth_or_fresh None = bind fresh (λ p. give (C.Holds p))
truth_or_fresh (Some c) = give c

-- an argument may be any number: nothing is known of one that can't be said
unfoldable pub index_or_fresh : Index → Option Index → Walk Index
index_or_fresh kind (Some i) = give i
index_or_fresh (N.Number t) None = bind fresh (λ v. give (N.Number (variable v)))
index_or_fresh (N.Truth c) None = bind fresh (λ p. give (N.Truth (C.Holds p)))

unfoldable pub read_or_fresh : List Index → Index → Walk Index
read_or_fresh is i = index_or_fresh i (read_index is i)

unfoldable pub each_read : List Index → List Index → Walk (List Index)
each_read is = each (read_or_fresh is)

-- ---- variables, with the name for which they are opened

abbrev pub named_form : Naming-F Naming → Walk ℕ
named_form (G.Named name) = fresh_named name
named_form form = fresh

unfoldable pub fresh_for : Naming → Walk ℕ
fresh_for naming = named_form (out-Naming naming)

-- the identifiers for which the parts of a tuple are opened
abbrev pub part_namings : Naming-F Naming → List Naming
part_namings (G.Parts ns) = ns
part_namings form = []

abbrev pub namings_of : Naming → List Naming
namings_of naming = part_namings (out-Naming naming)

-- an integer from one number to another; a bound that can't be said is none
abbrev pub bound_below : Option Num → Num → Option Con
bound_below low t = option_map (λ a. at_most a t) low

abbrev pub bound_above : Num → Option Num → Option Con
bound_above t high = option_map (λ b. at_most t b) high

unfoldable pub integer_between : Naming → Option Num → Option Num → Walk Indices
integer_between name low high =
    bind (fresh_for name) (λ v.
    bind (assume_if (bound_below low (variable v))) (λ x.
    bind (assume_if (bound_above (variable v) high)) (λ y. give (I.Integer (variable v)))))

unfoldable pub any_integer : Naming → Walk Indices
any_integer name = integer_between name (Some least_num) (Some largest_num)

unfoldable pub any_truth : Naming → Walk Indices
any_truth name = bind (fresh_for name) (λ p. give (I.Truth (C.Holds p)))

-- ---- widths and lengths

unfoldable pub widest : Num
widest = constant (pos 128)

unfoldable pub longest : Num
longest = constant (pos 4096)

abbrev pub zero_num : Num
zero_num = constant (pos 0)

unfoldable pub bits_of : Num → Walk Indices
bits_of t = bind (between zero_num t widest) (λ x. give (I.Bits t))

unfoldable pub vector_of : Reading → Num → Walk Indices
vector_of item t = bind (between zero_num t longest) (λ x. give (I.Vector t item))

-- `int(t)` tells bounds in a parameter and under `{'n, ..}`, where t isn't constant
unfoldable pub integer_of : Bool → Num → Walk Indices
integer_of tells t =
    if tells then (if is_constant t then give (I.Integer t) else bind (between least_num t largest_num) (λ x. give (I.Integer t))) else give (I.Integer t)

-- ---- types

-- how a type is opened: whether `int(t)` tells bounds there, and the name for which it is opened
abbrev pub Opening : Type 0
Opening = Bool → Naming → Walk Indices

abbrev pub parts_opened : Bool → List Opening → List Naming → Walk (List Indices)
parts_opened tells [] ns = give []
parts_opened tells (o ∷ os) [] = bind (o tells M.Unnamed) (λ i. bind (parts_opened tells os []) (λ is. give (i ∷ is)))
parts_opened tells (o ∷ os) (n ∷ ns) = bind (o tells n) (λ i. bind (parts_opened tells os ns) (λ is. give (i ∷ is)))

abbrev pub tuple_of : Bool → Naming → List Opening → Walk Indices
tuple_of tells naming os = bind (parts_opened tells os (namings_of naming)) (λ is. give (I.Tuple is))

abbrev pub variable_opened : ℕ → Option (Reading × Opening) → Opening
variable_opened i None tells name = give (I.Variable i)
variable_opened i (Some r) tells name = r.1 tells name

-- a type inside another, opened where its Int and Bool variables stand for these
abbrev pub Inner : Type 0
Inner = List Index → Opening

abbrev pub openings : List Index → List (Typ × Inner) → List Opening
openings is ts = map (λ t. t.1 is) ts

abbrev pub readings : List Index → List Reading → List (Typ × Inner) → List Reading
readings is rs ts = map (λ t. R.Of t.0 is rs) ts

-- ---- types with numbers and truths

unfoldable pub truth_opened : List Index → Con → Walk Indices
truth_opened is c = bind (truth_or_fresh (read_con is c)) (λ d. give (I.Truth d))

unfoldable pub bits_opened : List Index → Num → Walk Indices
bits_opened is t = bind (number_or_fresh (read is t)) bits_of

unfoldable pub integer_opened : List Index → Bool → Num → Walk Indices
integer_opened is tells t = bind (number_or_fresh (read is t)) (integer_of tells)

unfoldable pub range_opened : List Index → Naming → Num → Num → Walk Indices
range_opened is name t u = integer_between name (read is t) (read is u)

unfoldable pub vector_opened : List Index → List Reading → Num → Typ → Walk Indices
vector_opened is rs n t = bind (number_or_fresh (read is n)) (vector_of (R.Of t is rs))

unfoldable pub named_opened : List Index → ℕ → List Index → List Reading → Walk Indices
named_opened is i arguments rs = bind (each_read is arguments) (λ known. give (I.Named i known rs))

-- under what `{'n, C. ..}` binds: a variable with that name, for which C holds
unfoldable pub bound_inside : List ℕ → Con → List Index → Walk (List Index)
bound_inside own c is =
    bind (fresh_named own) (λ v.
    bind (assume_if (read_con (N.Number (variable v) ∷ is) c)) (λ x. give (N.Number (variable v) ∷ is)))

abbrev pub form_opened : List (Reading × Opening) → List Reading → Typ-F (Typ × Inner) → Inner
form_opened os rs T.Unit is tells name = give I.Unit
form_opened os rs T.Bool is tells name = any_truth name
form_opened os rs (T.Truth c) is tells name = truth_opened is c
form_opened os rs T.Bit is tells name = give I.Bit
form_opened os rs (T.Bits t) is tells name = bits_opened is t
form_opened os rs (T.Int t) is tells name = integer_opened is tells t
form_opened os rs (T.Range t u) is tells name = range_opened is name t u
form_opened os rs T.String is tells name = give I.String
form_opened os rs (T.List t) is tells name = give (I.List (R.Of t.0 is rs))
form_opened os rs (T.Vector n t) is tells name = vector_opened is rs n t.0
form_opened os rs (T.Tuple ts) is tells name = tuple_of tells name (openings is ts)
form_opened os rs (T.Named i arguments ts) is tells name = named_opened is i arguments (readings is rs ts)
form_opened os rs (T.Variable i) is tells name = variable_opened i (slice_get os i) tells name
form_opened os rs (T.Exists own c t) is tells name = bind (bound_inside own c is) (λ js. t.1 js true name)

-- the widened type of such a value: any integer and any truth
abbrev pub widened_opened : Indices-F (Indices × Opening) (Reading × Opening) → Opening
widened_opened W.Never tells name = give I.Never
widened_opened W.Unit tells name = give I.Unit
widened_opened (W.Truth c) tells name = any_truth name
widened_opened W.Bit tells name = give I.Bit
widened_opened (W.Bits t) tells name = bits_of t
widened_opened (W.Integer t) tells name = any_integer name
widened_opened W.String tells name = give I.String
widened_opened (W.List r) tells name = give (I.List r.0)
widened_opened (W.Vector n r) tells name = vector_of r.0 n
widened_opened (W.Tuple parts) tells name = tuple_of false name (map (λ p. p.1) parts)
widened_opened (W.Named i arguments rs) tells name = give (I.Named i arguments (map (λ r. r.0) rs))
widened_opened (W.Variable i) tells name = give (I.Variable i)

-- a type under readings of its Type variables and their openings
unfoldable pub typ_opened : List (Reading × Opening) → Typ → Inner
typ_opened rs = para-Typ Inner (form_opened rs (map (λ r. r.0) rs))

-- a value of what is no type doesn't exist
abbrev pub reading_opened : Reading-F (Indices × Opening) (Reading × Opening) → Opening
reading_opened (W.Of t is rs) = typ_opened rs t is
reading_opened (W.Widened i) = λ tells name. i.1 false name
reading_opened (W.Parts rs) = λ tells name. tuple_of tells name (map (λ r. r.1) rs)
reading_opened W.Hole = λ tells name. give I.Never

-- what is known of a value of a type under what its variables stand for
unfoldable pub opening : Reading → Opening
opening = para-Reading Opening Opening widened_opened reading_opened

-- of the widened type of such a value
unfoldable pub wide_opening : Indices → Opening
wide_opening = para-Indices Opening Opening widened_opened reading_opened

-- the openings of readings, with them
abbrev pub with_openings : List Reading → List (Reading × Opening)
with_openings rs = map (λ r. (r, opening r)) rs

-- ---- the parts of a tuple, each for its own identifiers

unfoldable pub types_opened : List (Reading × Opening) → List Typ → List Index → Bool → Naming → Walk (List Indices)
types_opened rs ts is tells naming = parts_opened tells (map (λ t. typ_opened rs t is) ts) (namings_of naming)

unfoldable pub readings_opened : List Reading → Bool → Naming → Walk (List Indices)
readings_opened rs tells naming = parts_opened tells (map opening rs) (namings_of naming)

unfoldable pub each_opened : List Indices → Naming → Walk (List Indices)
each_opened is naming = parts_opened false (map wide_opening is) (namings_of naming)

-- ---- a value of a type

-- of no parameter, for no name
unfoldable pub opened : Reading → Walk Indices
opened r = opening r false M.Unnamed

-- for a name
unfoldable pub opened_for : Naming → Reading → Walk Indices
opened_for name r = opening r false name
