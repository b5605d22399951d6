-- The walk over an expression: one case for each kind of node (Sail language manual, "Expressions", "Exceptions").
use Rattle.std.specs.Prelude.{Bool, List, None, Option, Some, false, if◌then◌else◌, map, slice_get, true, ℕ, [], ◌&&◌, ◌∷◌}
use Rattle.sail_base.specs.declared.place.Place.{Place}
use Rattle.sail_types.specs.declared.numbers.Con.{Con}
use Rattle.sail_types.specs.declared.types.Typ.{Typ}
use Rattle.sail_core.specs.declared.targets.Way.TheVariants as Y
use Rattle.sail_core.specs.declared.tree.Core.{Core, Core-F, fold-Core}
use Rattle.sail_core.specs.declared.tree.Giver.TheVariants as Gives
use Rattle.sail_core.specs.declared.tree.Kind.{Kind}
use Rattle.sail_core.specs.declared.tree.Kind.TheVariants as K
use Rattle.sail_core.specs.declared.written.Written.{Written}
use Rattle.value_indices.specs.Steps.{Walk, bind, give}
use Rattle.value_indices.specs.declared.indices.Indices.{Indices}
use Rattle.value_indices.specs.declared.indices.Indices.TheVariants as I
use Rattle.value_indices.specs.declared.indices.Reading.{Reading}
use Rattle.value_indices.specs.declared.indices.Reading.TheVariants as R
use Rattle.pattern_leaves.specs.Settings.{Around, Scope, exponents_owed, held_in, written_in}
use Rattle.call_arguments.specs.Aims.{aimed}
use Rattle.call_notes.specs.Ends.{never_value, settled, wrong_value}
use Rattle.call_notes.specs.Calls.{part_owed}
use Rattle.call_notes.specs.Noted.{node_ended, node_given}
use Rattle.call_arguments.specs.declared.aims.Aim.{Aim}
use Rattle.call_arguments.specs.declared.aims.Aim.TheVariants as Aims
use Rattle.expression_forms.specs.Names.{literal_indices, local_walk, register_walk, top_level_walk, variable_walk}
use Rattle.expression_forms.specs.Nodes.{cast_ended}
use Rattle.expression_forms.specs.Sizes.{constraint_walk, size_walk}
use Rattle.expression_forms.specs.Truths.{truth_of}
use Rattle.expression_steps.specs.Calls.{call_walk}
use Rattle.expression_steps.specs.Parts.{Part, four, led, none, one, three, two}
use Rattle.expression_steps.specs.Statements.{and_walk, assert_state, block_walk, foreach_walk, guarded, if_forms, if_state, last_never_ends}
use Rattle.expression_steps.specs.Statements.{let_walk, loop_walk, match_walk, or_walk, plain_state, try_walk, var_walk}
use Rattle.expression_steps.specs.Targets.{assigned, spotting}
use Rattle.expression_steps.specs.Values.{cons_walk, list_walk, part_forms, struct_walk, tuple_walk, update_forms, vector_walk, with_walk}

-- ---- `e : T`: it owes once, and keeps the indices of e

abbrev pub cast_owed : Around → Place → Written → Bool → Indices → Walk (Unit {0})
cast_owed around place w is_nested i =
    bind (exponents_owed around w.numbers) (λ t. part_owed around is_nested place i (written_in around w))

abbrev pub written_ended : Around → Place → ℕ → Written → Bool → Indices → Walk Indices
written_ended around place k w is_nested i = bind (cast_owed around place w is_nested i) (λ t. node_ended k (i ∷ []) i)

abbrev pub cast_walk : Place → ℕ → Option Written → Part → Around → Scope → Aim → Walk Indices
cast_walk place k None a around scope aim = a.walk around scope aim
cast_walk place k (Some w) a around scope aim =
    bind (a.walk around scope (aimed Aims.Given (written_in around w))) (written_ended around place k w a.is_nested)

-- ---- leaving

abbrev pub left_walk : Part → Around → Scope → Aim → Walk Indices
left_walk a around scope aim = bind (a.walk around scope aim) (λ i. never_value)

abbrev pub return_owed : Around → Place → Bool → Reading → Indices → Walk Indices
return_owed around place is_nested r i = bind (part_owed around is_nested place i r) (λ t. never_value)

abbrev pub return_walk : Place → Part → Around → Scope → Option Reading → Walk Indices
return_walk place a around scope None = wrong_value place
return_walk place a around scope (Some r) = bind (a.walk around scope (aimed Aims.Given r)) (return_owed around place a.is_nested r)

-- what is thrown is of the union `exception`
abbrev pub thrown_type : ℕ → Reading
thrown_type u = R.Widened (I.Named u [] [])

abbrev pub thrown_aim : Option ℕ → Aim
thrown_aim None = Aims.Free
thrown_aim (Some u) = Aims.Given (thrown_type u)

abbrev pub thrown_owed : Around → Place → Bool → Option ℕ → Indices → Walk Indices
thrown_owed around place is_nested None i = wrong_value place
thrown_owed around place is_nested (Some u) i = return_owed around place is_nested (thrown_type u) i

abbrev pub throw_walk : Place → Part → Around → Scope → Option ℕ → Walk Indices
throw_walk place a around scope exception =
    bind (a.walk around scope (thrown_aim exception)) (thrown_owed around place a.is_nested exception)

-- ---- conditions that are asserted, and options

abbrev pub asserted : Place → Indices → Walk Indices
asserted place i = bind (truth_of place i) (λ c. give I.Unit)

abbrev pub assert_walk : Part → Around → Scope → Walk Indices
assert_walk a around scope = bind (a.walk around scope Aims.Free) (asserted a.place)

-- of which nothing is wanted, and which gives this
abbrev pub free_giving : Part → Around → Scope → Indices → Walk Indices
free_giving a around scope i = bind (a.walk around scope Aims.Free) (λ j. give i)

abbrev pub option_indices : Typ → Indices
option_indices t = I.Named 0 [] (R.Of t [] [] ∷ [])

-- ---- one case for each kind

abbrev pub Walking : Type 0
Walking = Around → Scope → Aim → Walk Indices

-- where a value comes to what is wanted of it
abbrev pub place_walk : ℕ → Part → Walking
place_walk k a around scope aim = bind (a.walk around scope aim) (cast_ended k aim)

-- a kind that takes a wanted type further in, or owes it by itself
abbrev pub inward : Place → ℕ → Kind → List Part → Walking
inward place k (K.Cast None) parts around scope aim = one place (λ a. place_walk k a around scope aim) parts
inward place k (K.Block statements) parts around scope aim = block_walk place k statements parts around scope aim
inward place k (K.Let arm) parts around scope aim = two place (λ a b. let_walk (Gives.Arm k 0) place arm a b around scope aim) parts
inward place k (K.Var name written) parts around scope aim = two place (λ a b. var_walk name written a b around scope aim) parts
inward place k (K.If shape) parts around scope aim = if_forms place k shape parts around scope aim
inward place k (K.Match arms shape) parts around scope aim = led place (λ a bodies. match_walk place k shape arms a bodies around scope aim) parts
inward place k (K.Try arms shape) parts around scope aim = led place (λ a bodies. try_walk place k shape arms a bodies around scope aim) parts
inward place k K.When parts around scope aim = two place (λ a b. guarded a b around scope aim) parts
inward place k kind parts around scope aim = wrong_value place

-- a kind that has no parts
abbrev pub leaf_form : Place → ℕ → Kind → Around → Scope → Walk Indices
leaf_form place k (K.Constant literal) around scope = give (literal_indices literal)
leaf_form place k (K.Local name) around scope = local_walk place k (held_in name scope)
leaf_form place k (K.Variable name) around scope = variable_walk place k name (held_in name scope)
leaf_form place k (K.TopLevel i) around scope = top_level_walk around.types place k (slice_get around.lets i)
leaf_form place k (K.Register r) around scope = register_walk place k (slice_get around.registers r)
leaf_form place k (K.SizeOf t numbers) around scope = size_walk place t numbers around
leaf_form place k (K.Constraint c numbers) around scope = constraint_walk place c numbers around
leaf_form place k kind around scope = wrong_value place

abbrev pub leaf_walk : Place → ℕ → Kind → List Part → Around → Scope → Walk Indices
leaf_walk place k kind parts around scope = none place (leaf_form place k kind around scope) parts

-- a kind whose parts are walked from left to right, each with what is wanted of it from the start, or that has none
abbrev pub made_plain : Place → ℕ → Kind → List Part → Walking
made_plain place k (K.Call callee) args around scope aim = call_walk place k callee args around scope aim
made_plain place k (K.Cast written) parts around scope aim = one place (λ a. cast_walk place k written a around scope aim) parts
made_plain place k K.Tuple parts around scope aim = tuple_walk k parts around scope aim
made_plain place k (K.Cons shape) parts around scope aim = two place (λ a b. cons_walk k shape a b around scope aim) parts
made_plain place k (K.Struct u fields) parts around scope aim = struct_walk k u fields parts around scope
made_plain place k K.Return parts around scope aim = one place (λ a. return_walk place a around scope around.answer) parts
made_plain place k K.Throw parts around scope aim = one place (λ a. throw_walk place a around scope around.exception) parts
made_plain place k K.Exit parts around scope aim = one place (λ a. left_walk a around scope Aims.Free) parts
made_plain place k (K.Assert text) parts around scope aim = one place (λ a. assert_walk a around scope) parts
made_plain place k (K.Optional t) parts around scope aim = one place (λ a. free_giving a around scope (option_indices t)) parts
made_plain place k kind parts around scope aim = leaf_walk place k kind parts around scope

-- a kind whose parts depend on one another
abbrev pub parted : Place → ℕ → Kind → List Part → Walking
parted place k K.And parts around scope aim = two place (λ a b. and_walk a b around scope) parts
parted place k K.Or parts around scope aim = two place (λ a b. or_walk a b around scope) parts
parted place k (K.Vector shape) items around scope aim = vector_walk place k shape items around scope aim
parted place k (K.List shape) items around scope aim = list_walk place k shape items around scope aim
parted place k (K.With u fields) parts around scope aim = led place (λ a values. with_walk place k u fields a values around scope) parts
parted place k (K.Part suffixes) parts around scope aim = part_forms place suffixes parts around scope
parted place k K.WithItem parts around scope aim = update_forms place k Y.Item parts around scope
parted place k K.WithSlice parts around scope aim = update_forms place k Y.Slice parts around scope
parted place k (K.Assign targets) parts around scope aim = assigned place (map spotting targets) around scope parts
parted place k (K.Foreach name way) parts around scope aim =
    four place (λ a b c body. foreach_walk place name way a b c body around scope) parts
parted place k K.While parts around scope aim = three place (λ measure a b. loop_walk true measure a b around scope) parts
parted place k K.Repeat parts around scope aim = three place (λ measure a b. loop_walk false measure a b around scope) parts
parted place k kind parts around scope aim = wrong_value place

abbrev pub is_made : Kind → Bool
is_made K.And = false
is_made K.Or = false
is_made (K.Vector shape) = false
is_made (K.List shape) = false
is_made (K.With u fields) = false
is_made (K.Part suffixes) = false
is_made K.WithItem = false
is_made K.WithSlice = false
is_made (K.Assign targets) = false
is_made (K.Foreach name way) = false
is_made K.While = false
is_made K.Repeat = false
is_made kind = true

-- any kind that takes no wanted type further in
abbrev pub plain : Place → ℕ → Kind → List Part → Walking
plain place k kind parts around scope aim =
    if is_made kind then made_plain place k kind parts around scope aim else parted place k kind parts around scope aim

-- whether a kind takes a wanted type further in
abbrev pub goes_inward : Kind → Bool
goes_inward (K.Cast None) = true
goes_inward (K.Block statements) = true
goes_inward (K.Let arm) = true
goes_inward (K.Var name written) = true
goes_inward (K.If shape) = true
goes_inward (K.Match arms shape) = true
goes_inward (K.Try arms shape) = true
goes_inward K.When = true
goes_inward kind = false

abbrev pub settled_walk : Place → ℕ → Kind → List Part → Walking
settled_walk place k kind parts around scope aim = bind (plain place k kind parts around scope aim) (settled around place aim)

abbrev pub form_walk : Place → ℕ → Kind → List Part → Walking
form_walk place k kind parts around scope aim =
    if goes_inward kind then inward place k kind parts around scope aim else settled_walk place k kind parts around scope aim

-- whether a node of a kind makes a value of its own: one that an operator on truths, a branch, a loop or an assignment gives was made further
-- in, and a part by its suffixes
abbrev pub makes_value : Kind → Bool
makes_value (K.Local name) = true
makes_value (K.Variable name) = true
makes_value (K.TopLevel i) = true
makes_value (K.Register r) = true
makes_value (K.Call callee) = true
makes_value (K.Cast written) = true
makes_value K.Tuple = true
makes_value (K.Vector shape) = true
makes_value (K.List shape) = true
makes_value (K.Cons shape) = true
makes_value (K.Struct u fields) = true
makes_value (K.With u fields) = true
makes_value K.WithItem = true
makes_value K.WithSlice = true
makes_value kind = false

-- the end of a node: with the numbers of the value that it makes
abbrev pub node_end : ℕ → Bool → Indices → Walk Indices
node_end k is_made i = if is_made then node_given k i else give i

abbrev pub kind_walk : Place → ℕ → Kind → List Part → Walking
kind_walk place k kind parts around scope aim = bind (form_walk place k kind parts around scope aim) (node_end k (makes_value kind))

-- ---- what is known of a node besides

-- whether what is wanted of it is owed further in
abbrev pub kind_nested : Kind → List Part → Bool
kind_nested (K.Cast None) (a ∷ []) = a.is_nested
kind_nested K.When (a ∷ b ∷ []) = b.is_nested
kind_nested kind parts = goes_inward kind

abbrev pub both_never_end : List Part → Bool
both_never_end (c ∷ a ∷ b ∷ []) = a.never_ends && b.never_ends
both_never_end parts = false

abbrev pub kind_never_ends : Kind → List Part → Bool
kind_never_ends (K.Cast None) (a ∷ []) = a.never_ends
kind_never_ends K.When (a ∷ b ∷ []) = b.never_ends
kind_never_ends (K.Block statements) parts = last_never_ends parts
kind_never_ends (K.If shape) parts = both_never_end parts
kind_never_ends K.Return parts = true
kind_never_ends K.Throw parts = true
kind_never_ends K.Exit parts = true
kind_never_ends kind parts = false

abbrev pub kind_place : Place → Kind → List Part → Place
kind_place place K.When (a ∷ b ∷ []) = b.place
kind_place place kind parts = place

abbrev pub kind_state : Place → ℕ → Kind → List Part → Around → Scope → Walk (Option Con)
kind_state place k (K.If shape) parts around scope = if_state place k shape parts around scope
kind_state place k (K.Assert text) parts around scope = assert_state place parts around scope
kind_state place k kind parts around scope = plain_state (kind_walk place k kind parts around scope Aims.Free)

abbrev pub core_part : Core-F Part → Part
core_part c = record {
  place = kind_place c.place c.kind c.parts;
  is_nested = kind_nested c.kind c.parts;
  never_ends = kind_never_ends c.kind c.parts;
  walk = kind_walk c.place c.number c.kind c.parts;
  state = kind_state c.place c.number c.kind c.parts;
}

abbrev pub part : Core → Part
part = fold-Core Part core_part
