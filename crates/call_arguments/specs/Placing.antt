-- What the arguments of a call owe (Sail language manual, "Functions").
use Rattle.std.specs.List.{list_any}
use Rattle.std.specs.Ordering.{int_eq}
use Rattle.std.specs.Prelude.{Bool, List, None, Option, Some, false, if◌then◌else◌, length, map, nat_eq, pos, suc, true, zero, ℕ, [], ◌&&◌, ◌++◌, ◌∷◌}
use Rattle.sail_types.specs.Readings.{read_con}
use Rattle.sail_types.specs.Sums.{atom_of, coefficient_of, constant_of, read, terms_of}
use Rattle.sail_types.specs.declared.numbers.Atom.{Atom, out-Atom}
use Rattle.sail_types.specs.declared.numbers.Atom.TheOpen as A
use Rattle.sail_types.specs.declared.numbers.Atom.TheOpen.{Atom-F}
use Rattle.sail_types.specs.declared.numbers.Con.{Con, Con-F, out-Con}
use Rattle.sail_types.specs.declared.numbers.Con.TheOpen as E
use Rattle.sail_types.specs.declared.numbers.Index.{Index}
use Rattle.sail_types.specs.declared.numbers.Num.{Num}
use Rattle.sail_types.specs.declared.numbers.Term.{Term}
use Rattle.sail_types.specs.declared.types.Typ.{Typ, Typ-F}
use Rattle.sail_types.specs.declared.types.Typ.TheFolds.{para-Typ}
use Rattle.sail_types.specs.declared.types.Typ.TheOpen as T
use Rattle.value_indices.specs.Function.{Function}
use Rattle.value_indices.specs.Steps.{Conditions}
use Rattle.value_indices.specs.declared.indices.Indices.{Indices, out-Indices}
use Rattle.value_indices.specs.declared.indices.Indices.TheOpen as W
use Rattle.value_indices.specs.declared.indices.Indices.TheOpen.{Indices-F}
use Rattle.value_indices.specs.declared.indices.Reading.{Reading}
use Rattle.value_indices.specs.declared.indices.Reading.TheVariants as R
use Rattle.value_fits.specs.Fitting.{Fit, also, item_fits, never, number_fits, placed, says, truth_fits}
use Rattle.value_fits.specs.declared.fitted.Fitted.{Fitted}
use Rattle.call_arguments.specs.Callees.{is_closed}
use Rattle.call_arguments.specs.Holes.{types_without_holes}

-- ---- each argument fits its parameter, but at the places that give variables their numbers

abbrev pub atom_variable : Atom-F Atom Num Term → Option ℕ
atom_variable (A.Variable i) = Some i
atom_variable (A.Power t) = None

abbrev pub term_variable : List Term → Option ℕ
term_variable (t ∷ []) = if int_eq (coefficient_of t) (pos 1) then atom_variable (out-Atom (atom_of t)) else None
term_variable ts = None

-- the variable that a number is
abbrev pub variable_in : Num → Option ℕ
variable_in t = if int_eq (constant_of t) (pos 0) then term_variable (terms_of t) else None

abbrev pub form_variable : Con-F Con → Option ℕ
form_variable (E.Holds p) = Some p
form_variable c = None

-- what fits so far, and the variables whose places have been
pub record Placing : Type 0 where
  pub fitted : Fitted
  pub placed : List ℕ

abbrev pub placing : List ℕ → Fitted → Placing
placing known a = record { fitted = a; placed = known }

abbrev pub is_placed : List ℕ → ℕ → Bool
is_placed known v = list_any (nat_eq v) known

-- whether a place gives the number of a variable that has none yet
abbrev pub gives_number : List ℕ → Option ℕ → Bool
gives_number known None = false
gives_number known (Some v) = if is_placed known v then false else true

abbrev pub placed_behind : List ℕ → Option ℕ → List ℕ
placed_behind known None = known
placed_behind known (Some v) = if is_placed known v then known else known ++ v ∷ []

-- a place that gives no number owes
abbrev pub at_place : List ℕ → Option ℕ → Fitted → Fitted → Placing
at_place known v owed given = placing (placed_behind known v) (if gives_number known v then given else owed)

-- the place of a number, and of a truth
abbrev pub number_placed : List Index → Num → List ℕ → Num → ℕ → Placing
number_placed js t known m n = at_place known (variable_in t) (says (number_fits m (read js t)) n) (says [] n)

abbrev pub truth_placed : List Index → Con → List ℕ → Con → ℕ → Placing
truth_placed js c known d n = at_place known (form_variable (out-Con c)) (says (truth_fits d (read_con js c)) n) (says [] n)

-- that of the length of a vector, whose items are of this type
abbrev pub vector_placed : Fit → List Index → Num → Reading → List ℕ → Num → Reading → ℕ → Placing
vector_placed fit js l q known k r n =
    at_place known (variable_in l) (also (says (number_fits k (read js l)) n) (item_fits fit r q)) (item_fits fit r q n)

abbrev pub PlaceFit : Type 0
PlaceFit = List ℕ → Indices → ℕ → Placing

-- of a type, which it is told
abbrev pub TypeFit : Type 0
TypeFit = Typ → PlaceFit

abbrev pub also_placing : Placing → (List ℕ → ℕ → Placing) → Placing
also_placing a more = placing (more a.placed a.fitted.next).placed (also a.fitted (λ n. (more a.placed n).fitted))

abbrev pub each_placing : List PlaceFit → List Indices → List ℕ → ℕ → Placing
each_placing (f ∷ fs) (i ∷ is) known n = also_placing (f known i n) (each_placing fs is)
each_placing fs is known n = placing known (says [] n)

-- a variable to which a value gives this, if it gives it anything
abbrev pub placed_by : Option Index → ℕ → List ℕ → List ℕ
placed_by None v known = known
placed_by (Some i) v known = placed_behind known (Some v)

-- so many variables, those to which a value of this type gives a number
abbrev pub placed_within : Typ → Indices → ℕ → List ℕ → List ℕ
placed_within t i zero known = known
placed_within t i (suc v) known = placed_by (placed t v i) v (placed_within t i v known)

-- by the form of the type and of the value; what fits as a whole owes all, and may give numbers under its binders
abbrev pub whole_placed : Fit → List Index → List Reading → Typ → List ℕ → Indices → ℕ → Placing
whole_placed fit js qs t known i n = placing (placed_within t i (length js) known) (fit i (R.Of t js qs) n)

abbrev pub ValueForm : Type 0
ValueForm = Indices-F Indices Reading

abbrev pub int_placed : List Index → Num → List ℕ → ℕ → Placing → ValueForm → Placing
int_placed js t known n whole (W.Integer m) = number_placed js t known m n
int_placed js t known n whole form = whole

abbrev pub bits_placed : List Index → Num → List ℕ → ℕ → Placing → ValueForm → Placing
bits_placed js t known n whole (W.Bits m) = number_placed js t known m n
bits_placed js t known n whole form = whole

abbrev pub bool_placed : List Index → Con → List ℕ → ℕ → Placing → ValueForm → Placing
bool_placed js c known n whole (W.Truth d) = truth_placed js c known d n
bool_placed js c known n whole form = whole

abbrev pub items_placed : Fit → List Index → Num → Reading → List ℕ → ℕ → Placing → ValueForm → Placing
items_placed fit js l q known n whole (W.Vector k r) = vector_placed fit js l q known k r n
items_placed fit js l q known n whole form = whole

-- where a tuple has as many parts as its type
abbrev pub tuple_placed : List PlaceFit → List ℕ → ℕ → Placing → ValueForm → Placing
tuple_placed fs known n whole (W.Tuple is) = if nat_eq (length fs) (length is) then each_placing fs is known n else whole
tuple_placed fs known n whole form = whole

abbrev pub value_placing : Fit → List Index → List Reading → Typ-F (Typ × TypeFit) → List ℕ → ℕ → Placing → ValueForm → Placing
value_placing fit js qs (T.Int t) known n whole form = int_placed js t known n whole form
value_placing fit js qs (T.Bits t) known n whole form = bits_placed js t known n whole form
value_placing fit js qs (T.Truth c) known n whole form = bool_placed js c known n whole form
value_placing fit js qs (T.Vector l t) known n whole form = items_placed fit js l (R.Of t.0 js qs) known n whole form
value_placing fit js qs (T.Tuple ts) known n whole form = tuple_placed (map (λ t. t.1 t.0) ts) known n whole form
value_placing fit js qs t known n whole form = whole

abbrev pub form_placing : Fit → List Index → List Reading → Typ-F (Typ × TypeFit) → TypeFit
form_placing fit js qs x t known i n = value_placing fit js qs x known n (whole_placed fit js qs t known i n) (out-Indices i)

abbrev pub type_fits : Fit → List Index → List Reading → Typ → TypeFit
type_fits fit js qs = para-Typ TypeFit (form_placing fit js qs)

abbrev pub parameter_fits : Fit → List Index → List Reading → Typ → PlaceFit
parameter_fits fit js qs t = type_fits fit js qs t t

-- what is owed further in is left out
abbrev pub argument_fits : Fit → List Index → List Reading → Bool → Typ → PlaceFit
argument_fits fit js qs is_nested t known i n =
    if is_nested && is_closed t then placing known (says [] n) else parameter_fits fit js qs t known i n

abbrev pub arguments_fit : Fit → List Index → List Reading → List Bool → List Typ → List Indices → List ℕ → ℕ → Placing
arguments_fit fit js qs (b ∷ bs) (t ∷ ts) (i ∷ is) known n =
    also_placing (argument_fits fit js qs b t known i n) (arguments_fit fit js qs bs ts is)
arguments_fit fit js qs bs ts is known n = placing known (says [] n)

-- ---- what a call of a function owes

abbrev pub is_trivial_form : Con-F Con → Bool
is_trivial_form (E.Truth b) = b
is_trivial_form c = false

-- a constraint, where there is one
abbrev pub constraint_of : List Index → Con → Conditions
constraint_of js c = if is_trivial_form (out-Con c) then [] else read_con js c ∷ []

-- as many arguments as parameters
abbrev pub are_as_many : List Bool → List Typ → List Indices → Bool
are_as_many bs ts is = nat_eq (length bs) (length ts) && nat_eq (length is) (length ts)

abbrev pub arguments_owe : Fit → Function → List Index → List Reading → List Bool → List Indices → ℕ → Fitted
arguments_owe fit f js qs bs is n = also (arguments_fit fit js qs bs f.parameters is [] n).fitted (says (constraint_of js f.constraint))

abbrev pub conditions_of : Fit → Function → List Index → List Reading → List Bool → List Indices → ℕ → Fitted
conditions_of fit f js qs bs is n = if are_as_many bs f.parameters is then arguments_owe fit f js qs bs is n else never n

-- of a hole in what stands for a Type variable is only what never ends
abbrev pub call_conditions : Fit → Function → List Index → List Reading → List Bool → List Indices → ℕ → Fitted
call_conditions fit f js qs bs is n = conditions_of fit f js (types_without_holes qs) bs is n
