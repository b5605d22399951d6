-- What the code holds of ways and targets on its way through the parts of an expression.
use Rattle.std.specs.Prelude.{Bool, List, None, Option, Some, drop, map, ℕ, [], ◌&&◌, ◌++◌, ◌∷◌}
use Rattle.sail_types.specs.declared.shapes.Shape.{Shape}
use Rattle.sail_core.specs.declared.tree.Core.{Core}
use Rattle.sail_core.specs.declared.tree.Giver.{Giver}
use Rattle.sail_core.specs.declared.tree.Statement.{Statement}
use Rattle.sail_core.specs.declared.tree.Statement.TheVariants as S
use Rattle.sail_core.specs.declared.written.Written.{Written}
use Rattle.value_indices.specs.Steps.{Walk, assume, bind, give}
use Rattle.value_indices.specs.declared.indices.Indices.{Indices}
use Rattle.value_indices.specs.declared.indices.Indices.TheVariants as I
use Rattle.wide_types.specs.Widening.{widened}
use Rattle.pattern_notes.specs.Patterns.{arm_written}
use Rattle.pattern_leaves.specs.Settings.{Around, Scope, declared, exponents_owed, written_in}
use Rattle.pattern_leaves.specs.declared.names.Bound.{Bound}
use Rattle.call_arguments.specs.Aims.{aimed, inner_aim}
use Rattle.call_arguments.specs.Holes.{without_holes}
use Rattle.call_arguments.specs.declared.aims.Aim.{Aim}
use Rattle.call_arguments.specs.declared.aims.Aim.TheVariants as Aims
use Rattle.expression_forms.specs.Spots.{spot_of}
use Rattle.expression_forms.specs.declared.spots.Spot.{Spot}
use Rattle.expression_forms.specs.declared.ways.Reached.{Reached}
use Rattle.expression_steps.specs.Expressions.{part}
use Rattle.expression_steps.specs.Parts.{Part}
use Rattle.expression_steps.specs.Statements as statements
use Rattle.expression_steps.specs.Targets.{Spotted, SpottedAll, spotted, spotted_all}
use Rattle.expression_steps.specs.Values.{Passed, Taken, passed, taken}
use Rattle.expression_steps.specs.declared.binding.Binding as names
use Rattle.expression_steps.specs.declared.binding.Binding.TheVariants as N
use Rattle.expression_steps.specs.declared.ways.Way as code
use Rattle.expression_steps.specs.declared.ways.Way.TheVariants as B

abbrev pub each_part : List Core → List Part
each_part cores = map part cores

-- the parts that are left, of which so many have been taken
abbrev pub left_behind : List Core → ℕ → List Part
left_behind parts at = each_part (drop at parts)

abbrev pub taken_in : List Core → Option (Option Reached × ℕ) → Option Taken
taken_in parts None = None
taken_in parts (Some t) = taken t.0 (left_behind parts t.1)

abbrev pub passed_in : List Core → Option (Indices × ℕ) → Option Passed
passed_in parts None = None
passed_in parts (Some t) = passed (left_behind parts t.1) t.0

-- the value on the way; none where there is none
abbrev pub value_passed : Option (Indices × ℕ) → Indices
value_passed None = I.Never
value_passed (Some t) = t.0

abbrev pub spotted_in : Around → List Core → Option (Spot × ℕ) → Option Spotted
spotted_in around parts None = None
spotted_in around parts (Some t) = spotted (spot_of around t.0) (left_behind parts t.1)

abbrev pub spotted_all_in : Around → List Core → Option (List Spot × ℕ) → Option SpottedAll
spotted_all_in around parts None = None
spotted_all_in around parts (Some t) = spotted_all (map (spot_of around) t.0) (left_behind parts t.1)

-- what is wanted of a part; nothing where nothing is said
abbrev pub aim_or_free : Option Aim → Aim
aim_or_free None = Aims.Free
aim_or_free (Some aim) = aim

-- the part whose value a way gives
abbrev pub way_core : code.Way → Core
way_core (B.Under c a) = a.now
way_core (B.Case g place arm body i) = body.now
way_core (B.Whole a) = a.now

-- the parts whose values ways give, in order
abbrev pub way_cores : List code.Way → List Core
way_cores ws = map way_core ws

abbrev pub way_seen : Around → Scope → Aim → code.Way → statements.Way
way_seen around scope aim (B.Under c a) = statements.way_of (part a.now) around scope aim c.now
way_seen around scope aim (B.Case g place arm body i) = statements.case_way g place arm.now (part body.now) around scope aim i.now
way_seen around scope aim (B.Whole a) = statements.try_way (part a.now) around scope aim

abbrev pub ways_seen : Around → Scope → Aim → List code.Way → List statements.Way
ways_seen around scope aim ws = map (way_seen around scope aim) ws

-- what is owed and made behind the value of a part that is a way
abbrev pub end_walk : Around → Bool → ℕ → Shape → Core → Option Indices → Indices → Walk (Option Indices)
end_walk around is_free m shape core first i =
    bind (statements.owed_of_first around is_free (part core).place (part core).never_ends m first i)
    (λ t. give (statements.first_behind around is_free m shape (part core).never_ends first i))

-- what a way makes known, and the names that it binds
abbrev pub way_opened : Around → code.Way → Walk (List Bound)
way_opened around (B.Under c a) = bind (assume c.now) (λ t. give [])
way_opened around (B.Case g place arm body i) = statements.case_names g place arm.now around i.now
way_opened around (B.Whole a) = give []

-- ---- names that are bound: what is owed and wanted before the value is walked, and what its indices bind

abbrev pub statement_of : Option names.Binding → Statement
statement_of None = S.Evaluate
statement_of (Some (N.Let place arm)) = S.Define place arm.now
statement_of (Some (N.Var name written)) = S.Declare name.now written.now

abbrev pub names_bound : Giver → names.Binding → Part → Around → Scope → Walk (List Bound)
names_bound g (N.Let place arm) a around scope = statements.let_given g place arm.now a around scope
names_bound g (N.Var name written) a around scope = statements.var_name name.now written.now a around scope

abbrev pub bound_walk : Giver → names.Binding → Part → Part → Around → Scope → Aim → Walk Indices
bound_walk g binding a b around scope aim = bind (names_bound g binding a around scope) (λ found. b.walk around (found ++ scope) (inner_aim aim))

abbrev pub var_begun : Around → Option Written → Walk Aim
var_begun around None = give Aims.Free
var_begun around (Some w) = bind (exponents_owed around w.numbers) (λ t. give (aimed Aims.Due (written_in around w)))

abbrev pub bound_begun : Around → names.Binding → Walk Aim
bound_begun around (N.Let place arm) = give (statements.written_aim around (arm_written arm.now))
bound_begun around (N.Var name written) = var_begun around written.now

abbrev pub var_names : Around → List ℕ → Option Written → Indices → List Bound
var_names around name None i = declared name (without_holes (widened i)) ∷ []
var_names around name (Some w) i = declared name (written_in around w) ∷ []

abbrev pub bound_ended : Around → Giver → names.Binding → Bool → Indices → Walk (List Bound)
bound_ended around g (N.Let place arm) is_nested i =
    statements.bind_given g place arm.now around (statements.is_written (arm_written arm.now) && is_nested) i
bound_ended around g (N.Var name written) is_nested i = give (var_names around name.now written.now i)
