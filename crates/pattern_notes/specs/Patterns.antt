-- The walk over a pattern: what it owes of the value that it is matched with, what it makes known, and what the names that it binds are
-- (Sail language manual, "Pattern matching").
use Rattle.std.specs.Prelude.{ℕ, pos, nat_eq, Bool, true, false, List, [], ◌∷◌, ◌++◌, length, map, slice_get, Option, Some, None}
use Rattle.std.specs.Prelude.{if◌then◌else◌, ◌&&◌}
use Rattle.sail_base.specs.declared.place.Place.{Place}
use Rattle.sail_types.specs.Named.{payload}
use Rattle.sail_types.specs.Sums.{and_then, constant, difference}
use Rattle.sail_types.specs.declared.numbers.Num.{Num}
use Rattle.sail_types.specs.declared.types.Typ.TheVariants as T
use Rattle.sail_core.specs.declared.patterns.Arm.{Arm}
use Rattle.sail_core.specs.declared.patterns.Arm.TheVariants as A
use Rattle.sail_core.specs.declared.patterns.Form.{Form}
use Rattle.sail_core.specs.declared.patterns.Form.TheVariants as F
use Rattle.sail_core.specs.declared.patterns.Head.{Head}
use Rattle.sail_core.specs.declared.patterns.Head.TheVariants as H
use Rattle.sail_core.specs.declared.patterns.Pattern.{Pattern, Pattern-F, fold-Pattern}
use Rattle.sail_core.specs.declared.model.Direction.{Direction}
use Rattle.sail_core.specs.declared.written.Written.{Written}
use Rattle.value_indices.specs.declared.indices.Indices.{Indices, out-Indices}
use Rattle.value_indices.specs.declared.indices.Indices.TheVariants as I
use Rattle.value_indices.specs.declared.indices.Indices.TheOpen as W
use Rattle.value_indices.specs.declared.indices.Indices.TheOpen.{Indices-F}
use Rattle.value_indices.specs.declared.indices.Reading.{Reading}
use Rattle.value_indices.specs.declared.indices.Reading.TheVariants as R
use Rattle.value_indices.specs.declared.indices.Naming.{Naming, Naming-F, out-Naming}
use Rattle.value_indices.specs.declared.indices.Naming.TheVariants as M
use Rattle.value_indices.specs.declared.indices.Naming.TheOpen as G
use Rattle.value_indices.specs.declared.notes.Fact.{Fact}
use Rattle.value_indices.specs.declared.notes.Made.TheVariants as Makes
use Rattle.value_indices.specs.Steps.{Walk, bind, give, facts_here, note, size_note, way_note, owe_under, each}
use Rattle.value_indices.specs.Opening.{equal, opened_for}
use Rattle.value_fits.specs.Fitting.{fits, owe_fit_under}
use Rattle.call_arguments.specs.Widening.{parameters_of}
use Rattle.pattern_leaves.specs.declared.names.Bound.{Bound}
use Rattle.pattern_leaves.specs.Settings.{Around, bound, written_in, exponents_owed}
use Rattle.pattern_leaves.specs.Literals.{no_names, wrong_pattern, literal_met}
use Rattle.pattern_leaves.specs.Payloads.{payload_types, payload_readings}
use Rattle.pattern_leaves.specs.Widths.{first_sum, cut_width, cut_owed}
use Rattle.pattern_leaves.specs.Annotations.{written_at}
use Rattle.call_arguments.specs.Callees.{type_parameters}
use Rattle.pattern_notes.specs.declared.matching.Matching.{Matching}

-- what a pattern makes of a value of these indices
abbrev pub Match : Type 0
Match = Around → Matching → Indices → Walk (List Bound)

-- a pattern: the identifiers for which its value is opened, the type that is written at it, and its walk
pub record Look : Type 0 where
  pub naming : Naming
  pub written : Option Written
  pub match_with : Match

-- a pattern inside another
abbrev pub inside : Matching → Matching
inside how = record { in_case = how.in_case; is_owed = false }

-- the names of one walk, and those of another behind it
unfoldable pub also : Walk (List Bound) → Walk (List Bound) → Walk (List Bound)
also first next = bind first (λ found. bind next (λ more. give (found ++ more)))

-- parts from left to right
abbrev pub each_match : Place → List Look → Around → Matching → List Indices → Walk (List Bound)
each_match place [] around how [] = no_names
each_match place (p ∷ ps) around how (i ∷ is) = also (p.match_with around (inside how) i) (each_match place ps around how is)
each_match place ps around how is = wrong_pattern place

-- where there are as many as values: before the first is matched, else what is false would be owed under what that makes known
abbrev pub parts_match : Place → List Look → Around → Matching → List Indices → Walk (List Bound)
parts_match place ps around how is = if nat_eq (length ps) (length is) then each_match place ps around how is else wrong_pattern place

-- ---- payloads and items, opened for the names at which they are matched

-- the type of each part, for the names of the pattern that it is matched with
abbrev pub named_readings : List Look → List Reading → List (Naming × Reading)
named_readings (p ∷ ps) (r ∷ rs) = (p.naming, r) ∷ named_readings ps rs
named_readings ps rs = []

-- the type of a part, as what a Type variable stands for: no value of it tells what it binds
abbrev pub part_type : Reading → Reading
part_type r = R.Of (T.Variable 0) [] (r ∷ [])

-- a value of a type, whose sizes are noted where it is taken out
abbrev pub taken_out : Place → Naming → Reading → Walk Indices
taken_out place naming r = bind (note (λ facts. size_note facts place (Makes.ByType (part_type r)))) (λ t. opened_for naming r)

-- those of several parts, from left to right
abbrev pub all_taken : Place → List (Naming × Reading) → Walk (List Indices)
all_taken place [] = give []
all_taken place (r ∷ rs) = bind (taken_out place r.0 r.1) (λ i. bind (all_taken place rs) (λ is. give (i ∷ is)))

-- the parts of a payload are all taken out before the first is matched
abbrev pub constructor_met : Place → List Look → Around → Matching → List Reading → Walk (List Bound)
constructor_met place ps around how rs = bind (all_taken place (named_readings ps rs)) (parts_match place ps around how)

-- items of a type, each taken out and matched
abbrev pub item_met : Place → Look → Around → Matching → Reading → Walk (List Bound)
item_met place p around how r = bind (taken_out place p.naming r) (p.match_with around (inside how))

-- from left to right
abbrev pub items_met : Place → List Look → Around → Matching → Reading → Walk (List Bound)
items_met place [] around how r = no_names
items_met place (p ∷ ps) around how r = also (item_met place p around how r) (items_met place ps around how r)

-- a first item, and the list of the others
abbrev pub cons_met : Place → List Look → Around → Matching → Reading → Walk (List Bound)
cons_met place (p ∷ q ∷ []) around how r = also (item_met place p around how r) (q.match_with around (inside how) (I.List r))
cons_met place ps around how r = wrong_pattern place

-- ---- what an outer pattern owes has the facts in force before its inner patterns were read

-- names of the inner patterns, behind which the outer one owes
unfoldable pub after_inner : Walk (List Bound) → (List Fact → Walk (Unit {0})) → Walk (List Bound)
after_inner inner owes = bind facts_here (λ earlier. bind inner (λ found. bind (owes earlier) (λ t. give found)))

-- there are as many patterns as items
abbrev pub length_owed : Place → ℕ → Num → List Fact → Walk (Unit {0})
length_owed place count n earlier = owe_under earlier place (Some (equal (constant (pos count)) n) ∷ [])

-- the items, then the length
abbrev pub vector_met : Place → List Look → Around → Matching → Num → Reading → Walk (List Bound)
vector_met place ps around how n r = after_inner (items_met place ps around how r) (length_owed place (length ps) n)

-- ---- `p @ q`

-- the parts, each of its width
abbrev pub cut_parts : Place → List Look → Around → Matching → List (Option Num) → Option Num → Walk (List Bound)
cut_parts place ps around how ws rest = bind (each (cut_width place rest) ws) (parts_match place ps around how)

-- the parts, then the sum of their widths
abbrev pub cut_met : Place → List Look → Around → Matching → List (Option Num) → Num → Walk (List Bound)
cut_met place ps around how ws w = after_inner (cut_parts place ps around how ws (and_then (first_sum ws) (difference w))) (cut_owed place ws w)

-- ---- heads

-- a constructor of the value's own union
abbrev pub union_met : Place → Bool → Walk (List Bound) → Walk (List Bound)
union_met place true met = met
union_met place false met = wrong_pattern place

-- whether a value of the named type `v` with these Type arguments is of the union `u`: it has as many of them as that has Type variables
abbrev pub is_union : Around → ℕ → ℕ → List Reading → Bool
is_union around u v rs = nat_eq u v && nat_eq (length rs) (type_parameters (parameters_of (slice_get around.types.definitions u)))

-- a pattern that opens a value that exists
abbrev pub head_met : Place → Head → List Look → Around → Matching → Indices-F Indices Reading → Walk (List Bound)
head_met place (H.Is literal) ps around how i = literal_met place how.in_case literal i
head_met place H.Tuple ps around how (W.Tuple is) = parts_match place ps around how is
head_met place (H.Constructor u c) ps around how (W.Named v is rs) =
    union_met place (is_union around u v rs)
    (constructor_met place ps around how (payload_readings (payload_types (length ps) (payload around.types u c)) is rs))
head_met place H.Vector ps around how (W.Vector n r) = vector_met place ps around how n r
head_met place H.List ps around how (W.List r) = items_met place ps around how r
head_met place H.Cons ps around how (W.List r) = cons_met place ps around how r
head_met place (H.Cut ws) ps around how (W.Bits w) = cut_met place ps around how ws w
head_met place head ps around how i = wrong_pattern place

-- of a value that doesn't exist names are of none
abbrev pub each_met_never : List Look → Around → Matching → Walk (List Bound)
each_met_never [] around how = no_names
each_met_never (p ∷ ps) around how = also (p.match_with around (inside how) I.Never) (each_met_never ps around how)

-- a pattern that opens a value
abbrev pub opens_met : Place → Head → List Look → Around → Matching → Indices-F Indices Reading → Walk (List Bound)
opens_met place head ps around how W.Never = each_met_never ps around how
opens_met place head ps around how i = head_met place head ps around how i

-- ---- annotations and mappings

-- that the value is of the type, unless that is owed already
abbrev pub annotation_owed : Around → Place → Bool → Indices → Reading → List Fact → Walk (Unit {0})
annotation_owed around place true i r earlier = give tt
annotation_owed around place false i r earlier = owe_fit_under earlier place (fits around.types i r)

-- the type's own exponents, then the type
abbrev pub written_owed : Around → Place → Written → Bool → Indices → List Fact → Walk (Unit {0})
written_owed around place w is_owed i earlier =
    bind (exponents_owed around w.numbers) (λ t. annotation_owed around place is_owed i (written_in around w) earlier)

-- the inner pattern, then its type
abbrev pub annotated_met : Place → Written → Look → Match
annotated_met place w p around how i = after_inner (p.match_with around (inside how) i) (written_owed around place w how.is_owed i)

-- the names of the inner pattern, of which that for its whole value has the type
abbrev pub typed_met : Place → Written → Look → Match
typed_met place w p around how i =
    bind (annotated_met place w p around how i) (λ found. give (map (written_at (out-Naming p.naming) (written_in around w)) found))

-- that the value is one that a direction takes
abbrev pub parameter_owed : Around → Place → Direction → Indices → List Fact → Walk (Unit {0})
parameter_owed around place m i earlier = owe_fit_under earlier place (fits around.types i (R.Of m.parameter [] []))

-- a direction that gives a value of this type
abbrev pub given_met : Place → ℕ → Direction → Reading → Look → Match
given_met place d m given p around how i =
    bind (note (λ facts. way_note facts d)) (λ t. after_inner (item_met place p around how given) (parameter_owed around place m i))

-- a direction of a mapping, if there is one of this number
abbrev pub direction_met : Place → ℕ → Option Direction → (Direction → Reading) → Look → Match
direction_met place d None gives p around how i = wrong_pattern place
direction_met place d (Some m) gives p around how i = given_met place d m (gives m) p around how i

-- the type that a direction gives
abbrev pub result_of : Direction → Reading
result_of m = R.Of m.result [] []

-- the option that a direction gives once it is a function
abbrev pub option_of : Direction → Reading
option_of m = R.Widened (I.Named 0 [] (result_of m ∷ []))

-- ---- the forms

-- one name more
abbrev pub name_behind : List ℕ → Indices → List Bound → Walk (List Bound)
name_behind name i found = give (found ++ bound name i ∷ [])

-- `_`
abbrev pub nothing_met : Place → List Look → Walk (List Bound)
nothing_met place [] = no_names
nothing_met place ps = wrong_pattern place

-- an identifier that binds
abbrev pub name_met : Place → List ℕ → List Look → Indices → Walk (List Bound)
name_met place name [] i = give (bound name i ∷ [])
name_met place name ps i = wrong_pattern place

-- a pattern of this form over these parts
abbrev pub form_match : Place → Form → List Look → Match
form_match place F.Any ps around how i = nothing_met place ps
form_match place (F.Binds name) ps around how i = name_met place name ps i
form_match place (F.As name) (p ∷ []) around how i = bind (p.match_with around how i) (name_behind name i)
form_match place (F.Typed w) (p ∷ []) around how i = typed_met place w p around how i
form_match place (F.Opens head) ps around how i = opens_met place head ps around how (out-Indices i)
form_match place (F.Maps d) (p ∷ []) around how i = direction_met place d (slice_get around.directions d) result_of p around how i
form_match place (F.Sees d) (p ∷ []) around how i = direction_met place d (slice_get around.directions d) option_of p around how i
form_match place form ps around how i = wrong_pattern place

-- a name for a value of which no other is known
abbrev pub or_named : List ℕ → Naming → Naming-F Naming → Naming
or_named name naming G.Unnamed = M.Named name
or_named name naming form = naming

-- those of `p as x`
abbrev pub as_naming : List ℕ → List Look → Naming
as_naming name (p ∷ []) = or_named name p.naming (out-Naming p.naming)
as_naming name ps = M.Unnamed

-- those of a pattern over one
abbrev pub only_naming : List Look → Naming
only_naming (p ∷ []) = p.naming
only_naming ps = M.Unnamed

-- those of a tuple go to its parts
abbrev pub head_naming : Head → List Look → Naming
head_naming H.Tuple ps = M.Parts (map (λ p. p.naming) ps)
head_naming head ps = M.Unnamed

-- the identifiers for which a pattern's value is opened
abbrev pub form_naming : Form → List Look → Naming
form_naming (F.Binds name) ps = M.Named name
form_naming (F.As name) ps = as_naming name ps
form_naming (F.Typed w) ps = only_naming ps
form_naming (F.Opens head) ps = head_naming head ps
form_naming form ps = M.Unnamed

-- the type that is written at one pattern
abbrev pub only_written : List Look → Option Written
only_written (p ∷ []) = p.written
only_written ps = None

-- the type that is written at a pattern
abbrev pub form_written : Form → List Look → Option Written
form_written (F.Typed w) ps = Some w
form_written (F.As name) ps = only_written ps
form_written form ps = None

abbrev pub look_form : Pattern-F Look → Look
look_form p = record { naming = form_naming p.form p.parts; written = form_written p.form p.parts; match_with = form_match p.place p.form p.parts }

abbrev pub look : Pattern → Look
look = fold-Pattern Look look_form

-- a pattern that is matched with a value
abbrev pub matched : Pattern → Match
matched p = (look p).match_with

-- ---- arms

-- the patterns of one that is nested
abbrev pub nested : Arm → List Pattern
nested (A.Nested ps) = ps
nested (A.Flat count steps) = []

abbrev pub looks : Arm → List Look
looks arm = map look (nested arm)

-- what an arm makes known of the values that it looks at; flat arms are of later trees
abbrev pub arm_match : Place → Arm → Around → Matching → List Indices → Walk (List Bound)
arm_match place (A.Nested ps) around how is = parts_match place (map look ps) around how is
arm_match place (A.Flat count steps) around how is = wrong_pattern place

-- where one pattern is all, what its type owes may be owed already
abbrev pub one_match : Place → List Look → Around → Matching → Indices → Walk (List Bound)
one_match place (p ∷ []) around how i = p.match_with around how i
one_match place ps around how i = wrong_pattern place

-- the type that is written at the one pattern of an arm
abbrev pub arm_written : Arm → Option Written
arm_written arm = only_written (looks arm)
