-- What operators on truths, branches, names that are bound, blocks and loops owe, and which facts are in force where (Sail language manual,
-- "Booleans", "Conditionals", "Let bindings", "Pattern matching", "Exceptions", "Loops", "Assertions").
use Rattle.std.specs.Prelude.{Bool, List, None, Option, Some, false, if◌then◌else◌, is_none, length, not, pos, true, ℕ, [], ◌&&◌, ◌++◌, ◌∷◌}
use Rattle.sail_base.specs.declared.place.Place.{Place}
use Rattle.sail_types.specs.Sums.{constant, variable, zero_num}
use Rattle.sail_types.specs.declared.numbers.Con.{Con}
use Rattle.sail_types.specs.declared.numbers.Con.TheVariants as C
use Rattle.sail_types.specs.declared.numbers.Num.{Num}
use Rattle.sail_types.specs.declared.shapes.Shape.{Shape}
use Rattle.sail_types.specs.declared.types.Typ.TheVariants as Y
use Rattle.sail_core.specs.declared.patterns.Arm.{Arm}
use Rattle.sail_core.specs.declared.tree.Counting.{Counting}
use Rattle.sail_core.specs.declared.tree.Counting.TheVariants.{Down, Up}
use Rattle.sail_core.specs.declared.tree.Giver.{Giver}
use Rattle.sail_core.specs.declared.tree.Giver.TheVariants as Gives
use Rattle.sail_core.specs.declared.tree.Statement.{Statement}
use Rattle.sail_core.specs.declared.tree.Statement.TheVariants as S
use Rattle.sail_core.specs.declared.written.Written.{Written}
use Rattle.value_indices.specs.Opening.{at_most, between, largest_num}
use Rattle.value_indices.specs.Steps.{Walk, bind, claimed, fresh_named, give, next_variable, owe, scoped}
use Rattle.value_indices.specs.declared.indices.Indices.{Indices, out-Indices}
use Rattle.value_indices.specs.declared.indices.Indices.TheOpen as W
use Rattle.value_indices.specs.declared.indices.Indices.TheOpen.{Indices-F}
use Rattle.value_indices.specs.declared.indices.Indices.TheVariants as I
use Rattle.value_indices.specs.declared.indices.Reading.{Reading}
use Rattle.value_indices.specs.declared.indices.Reading.TheVariants as R
use Rattle.wide_types.specs.Widening.{widened}
use Rattle.pattern_notes.specs.Patterns.{arm_match, arm_written, looks, one_match}
use Rattle.pattern_leaves.specs.Settings.{Around, Scope, bound, declared, exponents_owed, written_in}
use Rattle.pattern_leaves.specs.declared.names.Bound.{Bound}
use Rattle.call_arguments.specs.Aims.{aimed, branch_aim, inner_aim, wanted}
use Rattle.call_arguments.specs.Holes.{without_holes}
use Rattle.call_notes.specs.Ends.{integer_number, never_value, settled, wrong_value}
use Rattle.call_notes.specs.Noted.{made_opened, names_given, node_ended, node_given, numbers_noted}
use Rattle.call_arguments.specs.declared.aims.Aim.{Aim}
use Rattle.call_arguments.specs.declared.aims.Aim.TheVariants as Aims
use Rattle.expression_forms.specs.Meeting.{first_way, like_first, met_ways, thrown}
use Rattle.expression_forms.specs.Truths.{and_right, claim_of, or_right}
use Rattle.expression_steps.specs.Parts.{Part, condition_walk, given_that, numbers_walk, truth_walk, under}
use Rattle.expression_steps.specs.declared.counting.Bounds.{Bounds}

-- ---- operators on truths

abbrev pub and_under : Part → Around → Scope → Con → Walk Indices
and_under b around scope c = bind (given_that c b around scope Aims.Free) (and_right b.place c)

abbrev pub and_walk : Part → Part → Around → Scope → Walk Indices
and_walk a b around scope = condition_walk a around scope (and_under b around scope)

abbrev pub or_under : Part → Around → Scope → Con → Walk Indices
or_under b around scope c = bind (given_that (C.Not c) b around scope Aims.Free) (or_right b.place c)

abbrev pub or_walk : Part → Part → Around → Scope → Walk Indices
or_walk a b around scope = condition_walk a around scope (or_under b around scope)

-- one of the two, by what is in force on the right, and what joins them
abbrev pub under_or_not : Bool → Con → Con
under_or_not is_or c = if is_or then C.Not c else c

abbrev pub joined : Bool → Place → Con → Indices → Walk Indices
joined is_or place c i = if is_or then or_right place c i else and_right place c i

abbrev pub joined_under : Bool → Part → Around → Scope → Con → Walk Indices
joined_under is_or b around scope c = bind (given_that (under_or_not is_or c) b around scope Aims.Free) (joined is_or b.place c)

abbrev pub joined_walk : Bool → Part → Part → Around → Scope → Walk Indices
joined_walk is_or a b around scope = condition_walk a around scope (joined_under is_or b around scope)

-- ---- where ways meet

-- a way: whether it never ends normally, the place of its expression, and its walk
pub record Way : Type 0 where
  pub never_ends : Bool
  pub place : Place
  pub walk : Walk Indices

-- the first way that ends normally, where no type is wanted, with a way behind it
abbrev pub first_behind : Around → Bool → ℕ → Shape → Bool → Option Indices → Indices → Option Indices
first_behind around true m shape never_ends None i = first_way around m shape never_ends i
first_behind around is_free m shape never_ends first i = first

-- what a way owes of the first one
abbrev pub owed_of_first : Around → Bool → Place → Bool → ℕ → Option Indices → Indices → Walk (Unit {0})
owed_of_first around true place never_ends m (Some first) i = like_first around place never_ends m first i
owed_of_first around is_free place never_ends m first i = give tt

abbrev pub then_first : Around → Bool → ℕ → Shape → Way → Option Indices → Indices → Walk (Option Indices)
then_first around is_free m shape w first i =
    bind (owed_of_first around is_free w.place w.never_ends m first i) (λ t. give (first_behind around is_free m shape w.never_ends first i))

abbrev pub way_behind : Around → Bool → ℕ → Shape → Way → Option Indices → Walk (Option Indices)
way_behind around is_free m shape w first = bind w.walk (then_first around is_free m shape w first)

-- a way, with an end of its own
abbrev pub one_way : Around → Bool → ℕ → Shape → Way → Option Indices → Walk (Option Indices)
one_way around is_free m shape w first = scoped (way_behind around is_free m shape w first)

abbrev pub each_way : Around → Bool → ℕ → Shape → List Way → Option Indices → Walk (Option Indices)
each_way around is_free m shape [] first = give first
each_way around is_free m shape (w ∷ ws) first = bind (one_way around is_free m shape w first) (each_way around is_free m shape ws)

-- with a wanted type that type, opened; else the widened type of the first way that ends normally: the node makes it of `()`
abbrev pub met_made : Around → Place → ℕ → Shape → Option Reading → ℕ → Option Indices → Walk Indices
met_made around place k shape None m first = bind (met_ways around place m shape first) (node_ended k (I.Unit ∷ []))
met_made around place k shape (Some r) m first = made_opened place k (I.Unit ∷ []) r

abbrev pub met_value : Around → Place → ℕ → Shape → Option Reading → ℕ → Option Indices → Walk Indices
met_value around place k shape r m first = bind (met_made around place k shape r m first) (node_given k)

abbrev pub meeting_from : Around → Place → ℕ → Shape → Option Reading → List Way → ℕ → Walk Indices
meeting_from around place k shape r ws m = bind (each_way around (is_none r) m shape ws None) (met_value around place k shape r m)

-- the value of ways, of which this type is wanted
abbrev pub meeting : Around → Place → ℕ → Shape → Option Reading → List Way → Walk Indices
meeting around place k shape r ws = bind next_variable (meeting_from around place k shape r ws)

-- ---- `if`

abbrev pub way_of : Part → Around → Scope → Aim → Con → Way
way_of a around scope aim c = record { never_ends = a.never_ends; place = a.place; walk = under c a around scope (branch_aim aim) }

abbrev pub two_ways : Part → Part → Around → Scope → Aim → Con → Con → List Way
two_ways a b around scope aim c d = way_of a around scope aim c ∷ way_of b around scope aim d ∷ []

abbrev pub if_ways : Part → Part → Around → Scope → Aim → Con → List Way
if_ways a b around scope aim c = two_ways a b around scope aim c (C.Not c)

abbrev pub if_under : Place → ℕ → Shape → Part → Part → Around → Scope → Aim → Con → Walk Indices
if_under place k shape a b around scope aim c = meeting around place k shape (wanted aim) (if_ways a b around scope aim c)

-- of what is neither `()` nor never ends normally what is false is owed
abbrev pub unit_form : Place → Indices-F Indices Reading → Walk Indices
unit_form place W.Unit = give I.Unit
unit_form place W.Never = give I.Unit
unit_form place form = wrong_value place

abbrev pub unit_of : Place → Indices → Walk Indices
unit_of place i = unit_form place (out-Indices i)

-- a body that has to be `()`, under a condition
abbrev pub unit_under : Con → Part → Around → Scope → Walk Indices
unit_under c a around scope = bind (under c a around scope Aims.Free) (unit_of a.place)

-- without `else` it is `()`, and so is its body
abbrev pub when_under : Part → Around → Scope → Con → Walk Indices
when_under a around scope c = bind (scoped (unit_under c a around scope)) (λ i. give I.Unit)

abbrev pub when_met : Part → Around → Scope → Option Con → Walk (Option (Con × Indices))
when_met a around scope None = give None
when_met a around scope (Some c) = bind (when_under a around scope c) (λ i. give (Some (c, i)))

abbrev pub either_met : Place → ℕ → Shape → Part → Part → Around → Scope → Aim → Option Con → Walk (Option (Con × Indices))
either_met place k shape a b around scope aim None = give None
either_met place k shape a b around scope aim (Some c) = bind (if_under place k shape a b around scope aim c) (λ i. give (Some (c, i)))

abbrev pub either_walk : Place → ℕ → Shape → Part → Part → Part → Around → Scope → Aim → Walk (Option (Con × Indices))
either_walk place k shape c a b around scope aim = bind (truth_walk c around scope) (either_met place k shape a b around scope aim)

-- its condition and its value; none where there is no condition
abbrev pub branches_forms : Place → ℕ → Shape → List Part → Around → Scope → Aim → Walk (Option (Con × Indices))
branches_forms place k shape (c ∷ a ∷ []) around scope aim = bind (truth_walk c around scope) (when_met a around scope)
branches_forms place k shape (c ∷ a ∷ b ∷ []) around scope aim = either_walk place k shape c a b around scope aim
branches_forms place k shape parts around scope aim = give None

abbrev pub value_met : Option (Con × Indices) → Indices
value_met None = I.Never
value_met (Some m) = m.1

-- without `else` the `()` is what is wanted; of any other number of parts what is false is owed
abbrev pub if_end : Place → List Part → Around → Aim → Option (Con × Indices) → Walk Indices
if_end place (c ∷ a ∷ []) around aim m = settled around place (branch_aim aim) (value_met m)
if_end place (c ∷ a ∷ b ∷ []) around aim m = give (value_met m)
if_end place parts around aim m = wrong_value place

abbrev pub if_forms : Place → ℕ → Shape → List Part → Around → Scope → Aim → Walk Indices
if_forms place k shape parts around scope aim = bind (branches_forms place k shape parts around scope aim) (if_end place parts around aim)

-- ---- statements: the condition that is in force in the rest of the block

-- that of a statement that claims nothing
abbrev pub plain_state : Walk Indices → Walk (Option Con)
plain_state w = bind w (λ i. give None)

abbrev pub wrong_state : Place → Walk (Option Con)
wrong_state place = plain_state (wrong_value place)

abbrev pub met_condition : Option (Con × Indices) → Option Con
met_condition None = None
met_condition (Some m) = Some m.0

-- where one branch never ends normally, the other one's fact is in force behind it
abbrev pub claim_met : Bool → Bool → Option Con → Option Con
claim_met then_never_ends else_never_ends None = None
claim_met then_never_ends else_never_ends (Some c) = claim_of then_never_ends else_never_ends c

-- of any other number of parts what is false is owed
abbrev pub claim_behind : Place → List Part → Option (Con × Indices) → Walk (Option Con)
claim_behind place (c ∷ a ∷ []) m = give (claim_met a.never_ends false (met_condition m))
claim_behind place (c ∷ a ∷ b ∷ []) m = give (claim_met a.never_ends b.never_ends (met_condition m))
claim_behind place parts m = wrong_state place

abbrev pub if_state : Place → ℕ → Shape → List Part → Around → Scope → Walk (Option Con)
if_state place k shape parts around scope = bind (branches_forms place k shape parts around scope Aims.Free) (claim_behind place parts)

abbrev pub assert_state : Place → List Part → Around → Scope → Walk (Option Con)
assert_state place (a ∷ []) around scope = truth_walk a around scope
assert_state place parts around scope = wrong_state place

-- ---- names that are bound

abbrev pub written_aim : Around → Option Written → Aim
written_aim around None = Aims.Free
written_aim around (Some w) = aimed Aims.Given (written_in around w)

abbrev pub is_written : Option Written → Bool
is_written None = false
is_written (Some w) = true

abbrev pub bind_names : Place → Arm → Around → Bool → Indices → Walk (List Bound)
bind_names place arm around is_owed i = one_match place (looks arm) around (record { in_case = false; is_owed = is_owed }) i

-- a `let`: the type at its pattern is wanted of its value, and owed once
abbrev pub let_names : Place → Arm → Part → Around → Scope → Walk (List Bound)
let_names place arm a around scope =
    bind (a.walk around scope (written_aim around (arm_written arm)))
    (bind_names place arm around (is_written (arm_written arm) && a.is_nested))

-- the same with the numbers that they give
abbrev pub bind_given : Giver → Place → Arm → Around → Bool → Indices → Walk (List Bound)
bind_given g place arm around is_owed i = bind (bind_names place arm around is_owed i) (names_given g (i ∷ []))

abbrev pub let_given : Giver → Place → Arm → Part → Around → Scope → Walk (List Bound)
let_given g place arm a around scope =
    bind (a.walk around scope (written_aim around (arm_written arm)))
    (bind_given g place arm around (is_written (arm_written arm) && a.is_nested))

abbrev pub let_walk : Giver → Place → Arm → Part → Part → Around → Scope → Aim → Walk Indices
let_walk g place arm a b around scope aim =
    bind (let_given g place arm a around scope) (λ found. b.walk around (found ++ scope) (inner_aim aim))

-- a `var`: what its type wants is owed as that of an initial value; without one, nothing is of a hole that its value leaves
abbrev pub var_name : List ℕ → Option Written → Part → Around → Scope → Walk (List Bound)
var_name name None a around scope = bind (a.walk around scope Aims.Free) (λ i. give (declared name (without_holes (widened i)) ∷ []))
var_name name (Some w) a around scope =
    bind (exponents_owed around w.numbers) (λ t.
    bind (a.walk around scope (aimed Aims.Due (written_in around w))) (λ i. give (declared name (written_in around w) ∷ [])))

abbrev pub var_walk : List ℕ → Option Written → Part → Part → Around → Scope → Aim → Walk Indices
var_walk name written a b around scope aim =
    bind (var_name name written a around scope) (λ found. b.walk around (found ++ scope) (inner_aim aim))

-- ---- blocks: a claim is in force to the block's end, opened values' facts beyond it; without a value the `()` is what is wanted

abbrev pub under_claim : Walk Indices → Option Con → Walk Indices
under_claim rest None = rest
under_claim rest (Some c) = claimed c rest

abbrev pub block_end : Place → List Part → Around → Scope → Aim → Walk Indices
block_end place [] around scope aim = settled around place (inner_aim aim) I.Unit
block_end place (value ∷ []) around scope aim = value.walk around scope (inner_aim aim)
block_end place parts around scope aim = wrong_value place

abbrev pub block_walk : Place → ℕ → List Statement → List Part → Around → Scope → Aim → Walk Indices
block_walk place k [] parts around scope aim = block_end place parts around scope aim
block_walk place k (S.Evaluate ∷ ss) (a ∷ parts) around scope aim =
    bind (a.state around scope) (under_claim (block_walk place k ss parts around scope aim))
block_walk place k (S.Define at arm ∷ ss) (a ∷ parts) around scope aim =
    bind (let_given (Gives.Arm k (length ss)) at arm a around scope) (λ found. block_walk place k ss parts around (found ++ scope) aim)
block_walk place k (S.Declare name written ∷ ss) (a ∷ parts) around scope aim =
    bind (var_name name written a around scope) (λ found. block_walk place k ss parts around (found ++ scope) aim)
block_walk place k ss parts around scope aim = wrong_value place

-- its last statement, or its value
abbrev pub last_never_ends : List Part → Bool
last_never_ends [] = false
last_never_ends (a ∷ []) = a.never_ends
last_never_ends (a ∷ b ∷ parts) = last_never_ends (b ∷ parts)

-- ---- `match` and `try`

abbrev pub case_names : Giver → Place → Arm → Around → Indices → Walk (List Bound)
case_names g place arm around i =
    bind (arm_match place arm around (record { in_case = true; is_owed = false }) (i ∷ [])) (names_given g (i ∷ []))

abbrev pub case_walk : Giver → Place → Arm → Part → Around → Scope → Aim → Indices → Walk Indices
case_walk g place arm body around scope aim i =
    bind (case_names g place arm around i) (λ found. body.walk around (found ++ scope) (branch_aim aim))

abbrev pub case_way : Giver → Place → Arm → Part → Around → Scope → Aim → Indices → Way
case_way g place arm body around scope aim i = record {
  never_ends = body.never_ends;
  place = body.place;
  walk = case_walk g place arm body around scope aim i;
}

abbrev pub case_ways : Place → ℕ → List Arm → List Part → Around → Scope → Aim → Indices → List Way
case_ways place k (arm ∷ arms) (body ∷ bodies) around scope aim i =
    case_way (Gives.Arm k (length arms)) place arm body around scope aim i ∷ case_ways place k arms bodies around scope aim i
case_ways place k arms bodies around scope aim i = []

abbrev pub match_under : Place → ℕ → Shape → List Arm → List Part → Around → Scope → Aim → Indices → Walk Indices
match_under place k shape arms bodies around scope aim i = meeting around place k shape (wanted aim) (case_ways place k arms bodies around scope aim i)

abbrev pub match_walk : Place → ℕ → Shape → List Arm → Part → List Part → Around → Scope → Aim → Walk Indices
match_walk place k shape arms a bodies around scope aim =
    bind (a.walk around scope Aims.Free) (match_under place k shape arms bodies around scope aim)

abbrev pub try_way : Part → Around → Scope → Aim → Way
try_way a around scope aim = record { never_ends = a.never_ends; place = a.place; walk = a.walk around scope (branch_aim aim) }

-- a first way, and the cases over what is thrown
abbrev pub try_over : Place → ℕ → Shape → List Arm → Part → List Part → Around → Scope → Aim → Indices → Walk Indices
try_over place k shape arms a bodies around scope aim i =
    meeting around place k shape (wanted aim) (try_way a around scope aim ∷ case_ways place k arms bodies around scope aim i)

-- what is thrown is caught by the node: it stands before the first way, behind which the same is in force
abbrev pub caught_at : ℕ → Indices → Walk (Unit {0})
caught_at k i = bind (node_ended k [] i) (numbers_noted k)

abbrev pub try_walk : Place → ℕ → Shape → List Arm → Part → List Part → Around → Scope → Aim → Walk Indices
try_walk place k shape arms a bodies around scope aim =
    bind (caught_at k (thrown around.exception)) (λ t. try_over place k shape arms a bodies around scope aim (thrown around.exception))

abbrev pub cases_walk : Bool → Place → ℕ → Shape → List Arm → Part → List Part → Around → Scope → Aim → Walk Indices
cases_walk is_try place k shape arms a bodies around scope aim =
    if is_try then try_walk place k shape arms a bodies around scope aim else match_walk place k shape arms a bodies around scope aim

-- a guard is in force in its case
abbrev pub guarded : Part → Part → Around → Scope → Aim → Walk Indices
guarded guard body around scope aim = condition_walk guard around scope (λ c. under c body around scope aim)

-- ---- loops

abbrev pub counted : Counting → Num → Num → Num → Walk (Unit {0})
counted Up from v to = between from v to
counted Down from v to = between to v from

-- the name of a turn's variable, which is between the bounds
abbrev pub turn_named : List ℕ → Counting → Num → Num → ℕ → Walk (List Bound)
turn_named name way from to v = bind (counted way from (variable v) to) (λ t. give (bound name (I.Integer (variable v)) ∷ []))

abbrev pub turn_begun : List ℕ → Counting → Num → Num → Walk (List Bound)
turn_begun name way from to = bind (fresh_named name) (turn_named name way from to)

abbrev pub turn_walk : List ℕ → Counting → Num → Num → Part → Around → Scope → Walk Indices
turn_walk name way from to body around scope =
    scoped (bind (turn_begun name way from to) (λ found. body.walk around (found ++ scope) Aims.Free))

-- the step is at least 1
abbrev pub step_owed : Place → Num → Walk (Unit {0})
step_owed place by = owe place (Some (at_most (constant (pos 1)) by) ∷ [])

-- from a number to another, by a third
abbrev pub bounds_of : Option (List Num) → Option Bounds
bounds_of (Some (from ∷ to ∷ by ∷ [])) = Some (record { from = from; to = to; by = by })
bounds_of numbers = None

abbrev pub turns_walk : Place → List ℕ → Counting → Part → Around → Scope → Option Bounds → Walk Indices
turns_walk place name way body around scope None = never_value
turns_walk place name way body around scope (Some b) =
    bind (step_owed place b.by) (λ t. bind (turn_walk name way b.from b.to body around scope) (λ i. give I.Unit))

abbrev pub foreach_walk : Place → List ℕ → Counting → Part → Part → Part → Part → Around → Scope → Walk Indices
foreach_walk place name way a b c body around scope =
    bind (numbers_walk (a ∷ b ∷ c ∷ []) around scope) (λ numbers. turns_walk place name way body around scope (bounds_of numbers))

abbrev pub natural_type : Reading
natural_type = R.Of (Y.Range zero_num largest_num) [] []

-- a measure, which has to be an integer and not negative
abbrev pub measured : Part → Around → Scope → Walk (Option Num)
measured a around scope = bind (a.walk around scope (Aims.Due natural_type)) (integer_number a.place)

-- with an end of its own
abbrev pub measure_walk : Part → Around → Scope → Walk (Unit {0})
measure_walk a around scope = scoped (bind (measured a around scope) (λ o. give tt))

-- a condition, which has to be a truth, with an end of its own
abbrev pub tested_walk : Part → Around → Scope → Walk (Unit {0})
tested_walk a around scope = scoped (bind (truth_walk a around scope) (λ c. give tt))

-- a body, of which nothing is wanted, with an end of its own
abbrev pub alone_walk : Part → Around → Scope → Walk (Unit {0})
alone_walk a around scope = scoped (bind (a.walk around scope Aims.Free) (λ i. give tt))

abbrev pub turn_part : Bool → Part → Around → Scope → Walk (Unit {0})
turn_part is_condition a around scope = if is_condition then tested_walk a around scope else alone_walk a around scope

-- a measure, and two parts in the order of the text: of a `while` the condition comes first, of a `repeat` the body
abbrev pub loop_walk : Bool → Part → Part → Part → Around → Scope → Walk Indices
loop_walk is_while measure a b around scope =
    bind (measure_walk measure around scope) (λ i.
    bind (turn_part is_while a around scope) (λ j. bind (turn_part (not is_while) b around scope) (λ k. give I.Unit)))
