-- Kinds whose parts are walked from left to right, each with what is wanted of it from the start: what is wanted of so many parts, how many of
-- them are walked, and what is made of their values. It is what `made_plain` says of each kind.
use Rattle.std.specs.Prelude.{Bool, List, None, Option, Some, false, if◌then◌else◌, suc, take, true, zero, ℕ, [], ◌∷◌}
use Rattle.sail_base.specs.declared.place.Place.{Place}
use Rattle.sail_core.specs.declared.tree.Kind.{Kind}
use Rattle.sail_core.specs.declared.tree.Kind.TheVariants as K
use Rattle.sail_core.specs.declared.written.Written.{Written}
use Rattle.value_indices.specs.Steps.{Walk, bind, give}
use Rattle.value_indices.specs.declared.indices.Indices.{Indices}
use Rattle.value_indices.specs.declared.indices.Reading.{Reading, out-Reading}
use Rattle.pattern_leaves.specs.Settings.{Around, Scope, written_in}
use Rattle.call_arguments.specs.Aims.{aimed}
use Rattle.call_arguments.specs.declared.aims.Aim.{Aim}
use Rattle.call_arguments.specs.declared.aims.Aim.TheVariants as Aims
use Rattle.call_notes.specs.Ends.{never_value, wrong_value}
use Rattle.expression_steps.specs.Calls.{call_aims, call_count, call_made}
use Rattle.expression_steps.specs.Expressions.{asserted, leaf_walk, option_indices, return_owed, thrown_aim, thrown_owed, written_ended}
use Rattle.expression_steps.specs.Parts.{Part, each_walk}
use Rattle.expression_steps.specs.Values.{cons_aims, cons_ended, struct_aims, struct_count, struct_made, tuple_aims, tuple_of, two_or_none, wanted_item}

-- ---- kinds of one part

abbrev pub is_single : Kind → Bool
is_single (K.Cast written) = true
is_single K.Return = true
is_single K.Throw = true
is_single K.Exit = true
is_single (K.Assert text) = true
is_single (K.Optional t) = true
is_single kind = false

abbrev pub one_or_none : ℕ → ℕ
one_or_none (suc zero) = 1
one_or_none n = 0

abbrev pub cast_aim : Around → Option Written → Aim → Aim
cast_aim around None aim = aim
cast_aim around (Some w) aim = aimed Aims.Given (written_in around w)

abbrev pub cast_made : Around → Place → ℕ → Option Written → Part → Indices → Walk Indices
cast_made around place k None a i = give i
cast_made around place k (Some w) a i = written_ended around place k w a.is_nested i

-- of what a function gives, where it is known
abbrev pub answer_aims : Option Reading → List Aim
answer_aims None = []
answer_aims (Some r) = aimed Aims.Given r ∷ []

abbrev pub answer_count : Option Reading → ℕ → ℕ
answer_count None n = 0
answer_count (Some r) n = one_or_none n

abbrev pub answer_made : Around → Place → Option Reading → Part → Indices → Walk Indices
answer_made around place None a i = wrong_value place
answer_made around place (Some r) a i = return_owed around place a.is_nested r i

abbrev pub part_made : Around → Place → ℕ → Kind → Part → Indices → Walk Indices
part_made around place k (K.Cast written) a i = cast_made around place k written a i
part_made around place k K.Return a i = answer_made around place around.answer a i
part_made around place k K.Throw a i = thrown_owed around place a.is_nested around.exception i
part_made around place k K.Exit a i = never_value
part_made around place k (K.Assert text) a i = asserted a.place i
part_made around place k (K.Optional t) a i = give (option_indices t)
part_made around place k kind a i = wrong_value place

abbrev pub single_count : Kind → ℕ → ℕ
single_count kind n = if is_single kind then one_or_none n else 0

-- of one part and its value alone
abbrev pub one_made : Around → Place → ℕ → Kind → List Part → List Indices → Walk Indices
one_made around place k kind (a ∷ []) (i ∷ []) = part_made around place k kind a i
one_made around place k kind parts is = wrong_value place

-- of a kind of one part, and of one that has none
abbrev pub single_end : Around → Scope → Place → ℕ → Kind → List Part → List Indices → Walk Indices
single_end around scope place k kind parts is =
    if is_single kind then one_made around place k kind parts is else leaf_walk place k kind parts around scope

-- ---- every such kind

abbrev pub made_aims : Around → Kind → ℕ → Aim → List Aim
made_aims around (K.Call callee) n aim = call_aims around callee n aim
made_aims around (K.Cast written) n aim = cast_aim around written aim ∷ []
made_aims around K.Tuple n aim = tuple_aims aim
made_aims around (K.Cons shape) n aim = cons_aims (out-Reading (wanted_item aim)) (wanted_item aim)
made_aims around (K.Struct u fields) n aim = struct_aims around u fields
made_aims around K.Return n aim = answer_aims around.answer
made_aims around K.Throw n aim = thrown_aim around.exception ∷ []
made_aims around kind n aim = []

abbrev pub made_count : Around → Kind → ℕ → ℕ
made_count around (K.Call callee) n = call_count around callee n
made_count around K.Tuple n = n
made_count around (K.Cons shape) n = two_or_none n
made_count around (K.Struct u fields) n = struct_count around u fields
made_count around K.Return n = answer_count around.answer n
made_count around kind n = single_count kind n

abbrev pub made_end : Around → Scope → Place → ℕ → Kind → List Part → Aim → List Indices → Walk Indices
made_end around scope place k (K.Call callee) parts aim is = call_made around place k callee parts aim is
made_end around scope place k K.Tuple parts aim is = tuple_of k is
made_end around scope place k (K.Cons shape) parts aim is = cons_ended around shape place k (wanted_item aim) parts is
made_end around scope place k (K.Struct u fields) parts aim is = struct_made around k u fields parts is
made_end around scope place k kind parts aim is = single_end around scope place k kind parts is

-- the walk over so many parts
abbrev pub made_walk : Place → ℕ → Kind → List Part → Around → Scope → Aim → ℕ → Walk Indices
made_walk place k kind parts around scope aim n =
    bind (each_walk (take (made_count around kind n) parts) around scope (made_aims around kind n aim)) (made_end around scope place k kind parts aim)
