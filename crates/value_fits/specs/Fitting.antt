-- What has to be true for a value of some indices to be of a type (Sail language manual, "Subtyping").
use Rattle.std.specs.Prelude.{ℕ, zero, suc, nat_eq, Bool, true, false, List, [], ◌∷◌, ◌++◌, map, slice_get}
use Rattle.std.specs.Prelude.{Option, Some, None, option_map, if◌then◌else◌}
use Rattle.sail_base.specs.declared.place.Place.{Place}
use Rattle.sail_types.specs.Named.{fields, field_types}
use Rattle.sail_types.specs.Places.{first, form_is, is_variable, only}
use Rattle.sail_types.specs.Readings.{read_con, read_indices, together}
use Rattle.sail_types.specs.Sums.{read}
use Rattle.sail_types.specs.Zero.{deepest}
use Rattle.sail_types.specs.declared.numbers.Con.{Con, out-Con}
use Rattle.sail_types.specs.declared.numbers.Con.TheVariants as C
use Rattle.sail_types.specs.declared.numbers.Index.{Index}
use Rattle.sail_types.specs.declared.numbers.Index.TheVariants as N
use Rattle.sail_types.specs.declared.numbers.Num.{Num}
use Rattle.sail_types.specs.declared.table.Field.{Field}
use Rattle.sail_types.specs.declared.table.Types.{Types}
use Rattle.sail_types.specs.declared.types.Typ.{Typ, Typ-F, out-Typ, fold-Typ}
use Rattle.sail_types.specs.declared.types.Typ.TheOpen as T
use Rattle.value_indices.specs.declared.indices.Indices.{Indices, out-Indices}
use Rattle.value_indices.specs.declared.indices.Indices.TheOpen as W
use Rattle.value_indices.specs.declared.indices.Indices.TheOpen.{Indices-F, Reading-F}
use Rattle.value_indices.specs.declared.indices.Reading.{Reading, out-Reading}
use Rattle.value_indices.specs.declared.indices.Reading.TheVariants as R
use Rattle.value_indices.specs.declared.notes.Fact.{Fact}
use Rattle.value_fits.specs.declared.fitted.Fitted.{Fitted}
use Rattle.value_indices.specs.Steps.{conditions, Went, went, Walk, Conditions, goals_under}
use Rattle.value_indices.specs.Opening.{at_most, equal, largest_num, least_num, opened}

-- ---- the number that indices give to a variable of a type, at its first place

abbrev pub Placed : Type 0
Placed = ℕ → Indices → Option Index

abbrev pub among : List Placed → ℕ → List Indices → Option Index
among (f ∷ fs) j (i ∷ is) = first (f j i) (among fs j is)
among fs j is = None

abbrev pub form_place : Typ-F Placed → ℕ → Indices-F Indices Reading → Option Index
form_place (T.Int t) j (W.Integer n) = only (is_variable j t) (N.Number n)
form_place (T.Truth c) j (W.Truth d) = only (form_is j (out-Con c)) (N.Truth d)
form_place (T.Bits t) j (W.Bits n) = only (is_variable j t) (N.Number n)
form_place (T.Vector t f) j (W.Vector n r) = only (is_variable j t) (N.Number n)
form_place (T.Tuple fs) j (W.Tuple is) = among fs j is
form_place t j i = None

abbrev pub placed_form : Typ-F Placed → Placed
placed_form (T.Exists name c f) j i = f (suc j) i
placed_form t j i = form_place t j (out-Indices i)

abbrev pub placed : Typ → Placed
placed = fold-Typ Placed placed_form

-- ---- conditions, with what comes into force and the number of the next variable

abbrev pub fitted : Conditions → List Fact → ℕ → Fitted
fitted cs facts n = record { conditions = cs; facts = facts; next = n }

abbrev pub says : Conditions → ℕ → Fitted
says cs n = fitted cs [] n

-- one behind another
unfoldable pub joined : Fitted → Fitted → Fitted
joined a b = fitted (a.conditions ++ b.conditions) (a.facts ++ b.facts) b.next

abbrev pub also : Fitted → (ℕ → Fitted) → Fitted
also a more = joined a (more a.next)

-- a value that is of no such type
abbrev pub never : ℕ → Fitted
never n = says (Some (C.Truth false) ∷ []) n

abbrev pub Fit : Type 0
Fit = Indices → Reading → ℕ → Fitted

-- whether that is all
abbrev pub ended : Bool → ℕ → Fitted
ended true n = says [] n
ended false n = never n

-- each of some and of as many others, in order; what is false where there are more of either
abbrev pub each_pair : {A B : Type 0} → (A → B → ℕ → Fitted) → List A → List B → ℕ → Fitted
each_pair f [] [] n = ended true n
each_pair f (x ∷ xs) (y ∷ ys) n = also (f x y n) (each_pair f xs ys)
each_pair f xs ys n = ended false n

-- the second where the first is true
abbrev pub implies : Con → Con → Con
implies c d = C.Any (C.Not c ∷ d ∷ [])

-- what an item has to satisfy; no such value need exist, so what is known of it is a premise, and isn't in force
abbrev pub if_all : List Con → Conditions → Conditions
if_all [] gs = gs
if_all facts [] = []
if_all facts gs = option_map (λ all. implies (C.All facts) (C.All all)) (together gs) ∷ []

abbrev pub under_premise : List Fact → Fitted → Fitted
under_premise facts a = says (if_all (conditions (facts ++ a.facts)) a.conditions) a.next

abbrev pub item_of : Fit → Went Indices → Reading → Fitted
item_of fit value wanted = under_premise value.facts (fit value.value wanted value.next)

abbrev pub item_fits : Fit → Reading → Reading → ℕ → Fitted
item_fits fit value wanted n = item_of fit (opened value [] n) wanted

-- Type arguments fit both ways, the value's first
abbrev pub argument_fits : Fit → Reading → Reading → ℕ → Fitted
argument_fits fit value wanted n = also (item_fits fit value wanted n) (item_fits fit wanted value)

abbrev pub arguments_fit : Fit → List Reading → List Reading → ℕ → Fitted
arguments_fit fit = each_pair (argument_fits fit)

abbrev pub truth_fits : Con → Option Con → Conditions
truth_fits d c = option_map (λ e. implies d e) c ∷ option_map (λ e. implies e d) c ∷ []

abbrev pub number_fits : Num → Option Num → Conditions
number_fits n t = option_map (equal n) t ∷ []

abbrev pub index_fits : Index → Index → Conditions
index_fits (N.Number n) (N.Number t) = number_fits n (Some t)
index_fits (N.Truth d) (N.Truth c) = truth_fits d (Some c)
index_fits i j = Some (C.Truth false) ∷ []

abbrev pub indices_fit : List Index → List Index → Conditions
indices_fit [] [] = []
indices_fit (i ∷ is) (j ∷ js) = index_fits i j ++ indices_fit is js
indices_fit is js = Some (C.Truth false) ∷ []

-- fields, each opened at that moment
abbrev pub field_of : Fit → Went Indices → Reading → Fitted
field_of fit value wanted = also (fitted [] value.facts value.next) (fit value.value wanted)

abbrev pub field_fits : Fit → Reading → Reading → ℕ → Fitted
field_fits fit value wanted n = field_of fit (opened value [] n) wanted

abbrev pub fields_fit : Fit → List Typ → List Index → List Reading → List Index → List Reading → ℕ → Fitted
fields_fit fit [] is rs js qs n = says [] n
fields_fit fit (t ∷ ts) is rs js qs n = also (field_fits fit (R.Of t is rs) (R.Of t js qs) n) (fields_fit fit ts is rs js qs)

abbrev pub types_of_fields : Option (List Field) → List Typ
types_of_fields None = []
types_of_fields (Some fs) = field_types fs

-- a struct by its fields, then the Int arguments of a named type, then its Type arguments
abbrev pub named_fits : Types → Fit → ℕ → List Index → List Reading → List Index → List Reading → ℕ → Fitted
named_fits types fit u is rs js qs n =
    also (fields_fit fit (types_of_fields (fields types u)) is rs js qs n)
    (λ k. also (says (indices_fit is js) k) (arguments_fit fit rs qs))

abbrev pub same_named : Types → Fit → ℕ → ℕ → List Index → List Reading → List Index → List Reading → ℕ → Fitted
same_named types fit u v is rs js qs n = if nat_eq u v then named_fits types fit u is rs js qs n else never n

abbrev pub in_range : Num → Option Num → Option Num → Conditions
in_range n low high = option_map (λ a. at_most a n) low ∷ option_map (λ b. at_most n b) high ∷ []

-- the condition of a bound variable, then the type inside
abbrev pub bound_by : Fit → Indices → Con → Typ → List Index → List Reading → ℕ → Fitted
bound_by fit i c t is rs n = also (says (read_con is c ∷ []) n) (fit i (R.Of t is rs))

-- the number at the place of the bound variable, first; a truth is no number
abbrev pub bound_fits : Fit → Indices → Con → Typ → List Index → List Reading → Option Index → ℕ → Fitted
bound_fits fit i c t is rs None n = never n
bound_fits fit i c t is rs (Some (N.Truth d)) n = never n
bound_fits fit i c t is rs (Some (N.Number m)) n = bound_by fit i c t (N.Number m ∷ is) rs n

-- Type variables of the function around them
abbrev pub same_variable : ℕ → ℕ → ℕ → Fitted
same_variable i j n = if nat_eq i j then says [] n else never n

abbrev pub own_variable : ℕ → Indices-F Indices Reading → ℕ → Fitted
own_variable i (W.Variable j) n = same_variable i j n
own_variable i value n = never n

abbrev pub variable_fits : Fit → Indices → ℕ → Option Reading → ℕ → Fitted
variable_fits fit i k None n = own_variable k (out-Indices i) n
variable_fits fit i k (Some r) n = fit i r n

-- types, where variables stand for the same
abbrev pub each_under : List Index → List Reading → List Typ → List Reading
each_under is rs ts = map (λ t. R.Of t is rs) ts

-- a part, and its written type
abbrev pub typed_fits : Fit → List Index → List Reading → Indices → Typ → ℕ → Fitted
typed_fits fit is rs i t n = fit i (R.Of t is rs) n

abbrev pub form_fits : Types → Fit → Typ-F Typ → List Index → List Reading → Indices-F Indices Reading → ℕ → Fitted
form_fits types fit T.Unit is rs W.Unit n = says [] n
form_fits types fit T.Bool is rs (W.Truth d) n = says [] n
form_fits types fit (T.Truth c) is rs (W.Truth d) n = says (truth_fits d (read_con is c)) n
form_fits types fit T.Bit is rs W.Bit n = says [] n
form_fits types fit (T.Bits t) is rs (W.Bits w) n = says (number_fits w (read is t)) n
form_fits types fit (T.Int t) is rs (W.Integer i) n = says (number_fits i (read is t)) n
form_fits types fit (T.Range t u) is rs (W.Integer i) n = says (in_range i (read is t) (read is u)) n
form_fits types fit T.String is rs W.String n = says [] n
form_fits types fit (T.List t) is rs (W.List r) n = item_fits fit r (R.Of t is rs) n
form_fits types fit (T.Vector l t) is rs (W.Vector k r) n = also (says (number_fits k (read is l)) n) (item_fits fit r (R.Of t is rs))
form_fits types fit (T.Tuple ts) is rs (W.Tuple parts) n = each_pair (typed_fits fit is rs) parts ts n
form_fits types fit t is rs i n = never n

-- named types: their arguments are read first
abbrev pub named_form : Types → Fit → ℕ → Option (List Index) → List Reading → Indices-F Indices Reading → ℕ → Fitted
named_form types fit u (Some js) qs (W.Named v is rs) n = same_named types fit u v is rs js qs n
named_form types fit u js qs i n = never n

abbrev pub typ_fits : Types → Fit → Typ-F Typ → List Index → List Reading → Indices → ℕ → Fitted
typ_fits types fit (T.Variable k) is rs i n = variable_fits fit i k (slice_get rs k) n
typ_fits types fit (T.Exists name c t) is rs i n = bound_fits fit i c t is rs (placed t 0 i) n
typ_fits types fit (T.Named u arguments ts) is rs i n =
    named_form types fit u (read_indices is arguments) (each_under is rs ts) (out-Indices i) n
typ_fits types fit t is rs i n = form_fits types fit t is rs (out-Indices i) n

-- a part, and the widened type of another
abbrev pub widened_part : Fit → Indices → Indices → ℕ → Fitted
widened_part fit i j n = fit i (R.Widened j) n

-- the widened type of other indices
abbrev pub widened_fits : Types → Fit → Indices-F Indices Reading → Indices-F Indices Reading → ℕ → Fitted
widened_fits types fit W.Unit W.Unit n = says [] n
widened_fits types fit (W.Truth c) (W.Truth d) n = says [] n
widened_fits types fit W.Bit W.Bit n = says [] n
widened_fits types fit (W.Bits t) (W.Bits w) n = says (number_fits w (Some t)) n
widened_fits types fit (W.Integer t) (W.Integer i) n = says (in_range i (Some least_num) (Some largest_num)) n
widened_fits types fit W.String W.String n = says [] n
widened_fits types fit (W.List q) (W.List r) n = item_fits fit r q n
widened_fits types fit (W.Vector l q) (W.Vector k r) n = also (says (number_fits k (Some l)) n) (item_fits fit r q)
widened_fits types fit (W.Tuple js) (W.Tuple is) n = each_pair (widened_part fit) is js n
widened_fits types fit (W.Named u js qs) (W.Named v is rs) n = same_named types fit u v is rs js qs n
widened_fits types fit (W.Variable j) (W.Variable i) n = same_variable i j n
widened_fits types fit wanted value n = never n

abbrev pub tuple_fits : Fit → List Reading → Indices-F Indices Reading → ℕ → Fitted
tuple_fits fit rs (W.Tuple is) n = each_pair fit is rs n
tuple_fits fit rs i n = never n

abbrev pub reading_fits : Types → Fit → Indices → Reading-F Indices Reading → ℕ → Fitted
reading_fits types fit i (W.Of t is rs) n = typ_fits types fit (out-Typ t) is rs i n
reading_fits types fit i (W.Widened j) n = widened_fits types fit (out-Indices j) (out-Indices i) n
reading_fits types fit i (W.Parts rs) n = tuple_fits fit rs (out-Indices i) n
reading_fits types fit i W.Hole n = says [] n

-- of what never ends normally nothing is said
abbrev pub value_fits : Types → Fit → Indices-F Indices Reading → Indices → Reading → ℕ → Fitted
value_fits types fit W.Never i r n = says [] n
value_fits types fit value i r n = reading_fits types fit i (out-Reading r) n

-- through types inside types to this depth
abbrev pub fits_within : Types → ℕ → Fit
fits_within types zero i r n = never n
fits_within types (suc depth) i r n = value_fits types (fits_within types depth) (out-Indices i) i r n

-- what has to be true for a value of these indices to be of this type, where variables are counted from here on
abbrev pub fits : Types → Fit
fits types = fits_within types deepest

-- ---- as a step of a walk

-- an obligation under some facts, or under those in force; what comes into force stays so
unfoldable pub owe_made_under : List Fact → Place → Fitted → Walk (Unit {0})
owe_made_under earlier place a facts n = went tt (facts ++ a.facts) a.next (goals_under (earlier ++ a.facts) place a.conditions)

unfoldable pub owe_fit_under : List Fact → Place → (ℕ → Fitted) → Walk (Unit {0})
owe_fit_under earlier place f facts n = owe_made_under earlier place (f n) facts n

unfoldable pub owe_made : Place → Fitted → Walk (Unit {0})
owe_made place a facts n = went tt (facts ++ a.facts) a.next (goals_under (facts ++ a.facts) place a.conditions)

unfoldable pub owe_fit : Place → (ℕ → Fitted) → Walk (Unit {0})
owe_fit place f facts n = owe_made place (f n) facts n
