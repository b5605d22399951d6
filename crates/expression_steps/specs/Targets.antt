-- What assignments owe (Sail language manual, "Variables and assignment").
use Rattle.std.specs.Prelude.{Bool, List, None, Option, Some, drop, false, if◌then◌else◌, length, nat_lt, slice_get, take, true, ℕ, []}
use Rattle.std.specs.Prelude.{◌++◌, ◌-◌, ◌∷◌}
use Rattle.sail_base.specs.declared.place.Place.{Place}
use Rattle.sail_core.specs.declared.targets.Caller.{Caller}
use Rattle.sail_core.specs.declared.targets.Suffix.{Suffix}
use Rattle.sail_core.specs.declared.targets.Target.{Target, fold-Target}
use Rattle.sail_core.specs.declared.targets.TargetKind.{TargetKind}
use Rattle.sail_core.specs.declared.targets.TargetKind.TheVariants as T
use Rattle.sail_types.specs.declared.numbers.Num.{Num}
use Rattle.value_indices.specs.Steps.{Walk, bind, give, next_variable, scoped, wrong}
use Rattle.value_indices.specs.declared.indices.Indices.{Indices}
use Rattle.value_indices.specs.declared.notes.Fact.{Fact}
use Rattle.pattern_leaves.specs.Settings.{Around, Scope, held_in}
use Rattle.call_arguments.specs.Aims.{aimed}
use Rattle.call_notes.specs.Ends.{never_value, wrong_value}
use Rattle.call_notes.specs.Calls.{callee_types}
use Rattle.call_arguments.specs.declared.aims.Aim.TheVariants as Aims
use Rattle.expression_forms.specs.Spots.{Spot, call_spot, held_spot, in_force, known_from, late_bound, late_part, owes_itself, part_spot}
use Rattle.expression_forms.specs.Spots.{register_spot, tuple_spot, written_by}
use Rattle.expression_forms.specs.Ways.{suffix_read}
use Rattle.expression_forms.specs.declared.ways.Reached.{Reached}
use Rattle.expression_steps.specs.Calls.{arguments_walk, nestings}
use Rattle.expression_steps.specs.Parts.{Part, numbers_walk}
use Rattle.expression_steps.specs.Values.{Taken, indexes_of, left_after, reached_by, suffixes_walk, then_on, way_walk}
use Rattle.expression_steps.specs.declared.late.Ahead.{Ahead}
use Rattle.expression_steps.specs.declared.late.Late.{Late}

-- ---- what a target is, if it is there, and the parts of the assignment that are left behind its arguments and indexes

pub record Spotted : Type 0 where
  pub spot : Spot
  pub left : List Part

abbrev pub spotted : Spot → List Part → Option Spotted
spotted s left = Some (record { spot = s; left = left })

pub record SpottedAll : Type 0 where
  pub spots : List Spot
  pub left : List Part

abbrev pub spotted_all : List Spot → List Part → Option SpottedAll
spotted_all ss left = Some (record { spots = ss; left = left })

-- targets take their arguments and indexes from the parts of the assignment
abbrev pub Spotting : Type 0
Spotting = Around → Scope → List Part → Walk (Option Spotted)

abbrev pub then_spot : {A : Type 0} → (Spot → List Part → Walk (Option A)) → Option Spotted → Walk (Option A)
then_spot next None = give None
then_spot next (Some s) = next s.spot s.left

abbrev pub no_spot : Place → Walk (Option Spotted)
no_spot place = bind (wrong place) (λ t. give None)

-- ---- parts: the last suffix is what is assigned, those before it are read

abbrev pub part_spotted : Around → ℕ → Suffix → Spot → Indices → Option Taken → Option Spotted
part_spotted around k s base held None = None
part_spotted around k s base held (Some w) = spotted (part_spot around s.place k s.way base held w.reached) w.left

abbrev pub last_suffix : ℕ → Suffix → Around → Scope → Spot → Indices → List Part → Indices → Walk (Option Spotted)
last_suffix k s around scope base held parts i =
    bind (way_walk s.place parts around scope i s.way) (λ w. give (part_spotted around k s base held w))

-- the last, those before it, the base, what it holds, and the parts that are left
abbrev pub suffixes_spot : Place → ℕ → Option Suffix → List Suffix → Around → Scope → Spot → List Part → Indices → Walk (Option Spotted)
suffixes_spot place k None ss around scope base parts held = no_spot place
suffixes_spot place k (Some s) ss around scope base parts held =
    bind (suffixes_walk true ss around scope parts held) (then_on (last_suffix k s around scope base held))

abbrev pub part_of : Place → ℕ → List Suffix → Around → Scope → Spot → List Part → Walk (Option Spotted)
part_of place k ss around scope s left =
    bind s.read (suffixes_spot place k (slice_get ss (length ss - 1)) (take (length ss - 1) ss) around scope s left)

-- ---- parts of what is there late, as what a call gives: a run reads it behind the new value, so what is known of it is in force for the ways into it
-- and for the write alone, and not for their indexes and the value

-- the variable from which on it is read, what that gives, and what is known of it
abbrev pub ahead : ℕ → Indices → List Fact → Ahead
ahead m held fs = record { before = m; held = held; facts = fs }

abbrev pub read_ahead : Spot → Walk Ahead
read_ahead base = bind next_variable (λ m. bind (scoped base.read) (λ held. give (ahead m held (known_from m base.read))))

-- the numbers of the indexes that a suffix takes, and those that are left
abbrev pub its_numbers : Suffix → List Num → List Num
its_numbers s ns = take (indexes_of s.way) ns

abbrev pub other_numbers : Suffix → List Num → List Num
other_numbers s ns = drop (indexes_of s.way) ns

-- a value on the way, and the numbers that are left
pub record Onward : Type 0 where
  pub value : Indices
  pub numbers : List Num

abbrev pub onward_to : List Num → Indices → Onward
onward_to ns i = record { value = i; numbers = ns }

abbrev pub read_late : Around → List Suffix → List Num → Indices → Walk Onward
read_late around [] ns i = give (onward_to ns i)
read_late around (s ∷ ss) ns i =
    bind (reached_by around i s.way (its_numbers s ns)) (λ x.
    bind (suffix_read true s.place s.number i x) (read_late around ss (other_numbers s ns)))

-- what the last suffix reaches
abbrev pub late_reached : Suffix → Option Reached → Late
late_reached s x = record { place = s.place; way = s.way; reached = x }

abbrev pub last_late : Around → Suffix → Onward → Walk (Option Late)
last_late around s o = bind (reached_by around o.value s.way (its_numbers s o.numbers)) (λ x. give (Some (late_reached s x)))

abbrev pub suffixes_late : Place → Around → Option Suffix → List Suffix → List Num → Indices → Walk (Option Late)
suffixes_late place around None ss ns held = bind (wrong place) (λ t. give None)
suffixes_late place around (Some s) ss ns held = bind (read_late around ss ns held) (last_late around s)

-- the ways into what the base holds
abbrev pub part_late : Place → List Suffix → Around → List Num → Indices → Walk (Option Late)
part_late place ss around ns held = suffixes_late place around (slice_get ss (length ss - 1)) (take (length ss - 1) ss) ns held

-- an index owes at its bracket, a field at the target's first token
abbrev pub late_place : Place → Late → Place
late_place place l = if owes_itself l.way then l.place else place

abbrev pub late_spotted : Place → Around → ℕ → Spot → Ahead → ℕ → List Fact → List Part → Option Late → Option Spotted
late_spotted place around k base a n fs left None = None
late_spotted place around k base a n fs left (Some l) =
    spotted (late_part around (late_place place l) k base a.held l.reached (record { before = late_bound a.before n a.held; facts = a.facts ++ fs })) left

-- what is known of the base is in force for the ways
abbrev pub ways_late : Place → List Suffix → Around → List Num → Ahead → Walk (Option Late)
ways_late place ss around ns a = scoped (bind (in_force a.facts) (λ t. part_late place ss around ns a.held))

-- and what they make known is in force nowhere before the write
abbrev pub known_late : Place → ℕ → List Suffix → Around → Spot → Ahead → List Part → List Num → Walk (Option Spotted)
known_late place k ss around base a left ns =
    bind next_variable (λ n. bind (ways_late place ss around ns a) (λ o.
    give (late_spotted place around k base a n (known_from n (part_late place ss around ns a.held)) left o)))

abbrev pub numbered_late : Place → ℕ → List Suffix → Around → Spot → List Part → Ahead → Option (List Num) → Walk (Option Spotted)
numbered_late place k ss around base left a None = give None
numbered_late place k ss around base left a (Some ns) = known_late place k ss around base a left ns

-- how many of so many parts some suffixes take
abbrev pub count_taken : List Suffix → ℕ → ℕ
count_taken ss n = n - left_after ss n

abbrev pub late_count : List Suffix → List Part → ℕ
late_count ss left = count_taken ss (length left)

-- the base, then the indexes of all suffixes, then the ways
abbrev pub each_late : Place → ℕ → List Suffix → Around → Scope → Spot → List Part → Walk (Option Spotted)
each_late place k ss around scope base left =
    bind (read_ahead base) (λ a.
    bind (numbers_walk (take (late_count ss left) left) around scope) (numbered_late place k ss around base (drop (late_count ss left) left) a))

-- whether suffixes take more indexes than so many
abbrev pub is_short : List Suffix → ℕ → Bool
is_short [] n = false
is_short (s ∷ ss) n = if nat_lt n (indexes_of s.way) then true else is_short ss (n - indexes_of s.way)

-- no suffix, or more indexes than there are
abbrev pub has_no_way : List Suffix → ℕ → Bool
has_no_way [] n = true
has_no_way (s ∷ ss) n = is_short (s ∷ ss) n

abbrev pub spotted_late : Place → ℕ → List Suffix → Around → Scope → Spot → List Part → Walk (Option Spotted)
spotted_late place k ss around scope base left =
    if has_no_way ss (length left) then no_spot place else each_late place k ss around scope base left

abbrev pub based : Place → ℕ → List Suffix → Around → Scope → Spot → List Part → Walk (Option Spotted)
based place k ss around scope base left =
    if base.is_late then spotted_late place k ss around scope base left else part_of place k ss around scope base left

-- of a name or a call; what is a part has all suffixes
abbrev pub part_within : Place → ℕ → List Suffix → Around → Scope → Spot → List Part → Walk (Option Spotted)
part_within place k ss around scope base left =
    if base.is_base then based place k ss around scope base left else no_spot place

-- ---- tuples

abbrev pub with_spot : Spot → Option SpottedAll → Walk (Option SpottedAll)
with_spot s None = give None
with_spot s (Some more) = give (spotted_all (s ∷ more.spots) more.left)

abbrev pub each_spot : List Spotting → Around → Scope → List Part → Walk (Option SpottedAll)
each_spot [] around scope parts = give (spotted_all [] parts)
each_spot (t ∷ ts) around scope parts =
    bind (t around scope parts) (then_spot (λ s left. bind (each_spot ts around scope left) (with_spot s)))

abbrev pub tuple_spotted : Place → ℕ → Option SpottedAll → Option Spotted
tuple_spotted place k None = None
tuple_spotted place k (Some all) = spotted (tuple_spot place k all.spots) all.left

-- ---- the kinds

abbrev pub call_spotted : Around → Place → ℕ → ℕ → Option Caller → Caller → List Part → List Indices → Walk (Option Spotted)
call_spotted around place k count reader writer parts is =
    give (spotted (call_spot around place k reader writer (nestings (take count parts)) is) (drop count parts))

abbrev pub call_target : Place → ℕ → ℕ → Option Caller → Caller → Spotting
call_target place k count reader writer around scope parts =
    bind (arguments_walk (take count parts) around scope (callee_types around writer.callee)) (call_spotted around place k count reader writer parts)

abbrev pub kind_spot : Place → ℕ → TargetKind → List Spotting → Spotting
kind_spot place k (T.Variable name) [] around scope parts = give (spotted (held_spot around place k name (held_in name scope)) parts)
kind_spot place k (T.Register r) [] around scope parts = give (spotted (register_spot around place k (slice_get around.registers r)) parts)
kind_spot place k (T.Call count reader writer) [] around scope parts = call_target place k count reader writer around scope parts
kind_spot place k T.Tuple targets around scope parts = bind (each_spot targets around scope parts) (λ all. give (tuple_spotted place k all))
kind_spot place k (T.Part suffixes) (base ∷ []) around scope parts =
    bind (base around scope parts) (then_spot (part_within place k suffixes around scope))
kind_spot place k kind targets around scope parts = no_spot place

abbrev pub spotting : Target → Spotting
spotting = fold-Target Spotting (λ t. kind_spot t.place t.number t.kind t.parts)

-- ---- assignments: what is on the right of one is its value, or what further assignments give

abbrev pub value_for : Part → Around → Scope → Place → Spot → Walk Indices
value_for a around scope place s = bind (a.walk around scope (aimed Aims.Given s.typ)) (written_by place s a.is_nested)

abbrev pub assigned_one : Place → Around → Scope → Spot → List Part → Walk Indices
assigned_one place around scope s (a ∷ []) = value_for a around scope place s
assigned_one place around scope s parts = wrong_value place

abbrev pub then_assigned : (Spot → List Part → Walk Indices) → Option Spotted → Walk Indices
then_assigned next None = never_value
then_assigned next (Some s) = next s.spot s.left

-- behind a target: the value, or what further assignments give, is written to it
abbrev pub assigned_to : Place → List Spotting → (List Part → Walk Indices) → Around → Scope → Spot → List Part → Walk Indices
assigned_to place [] further around scope s left = assigned_one place around scope s left
assigned_to place (t ∷ ts) further around scope s left = bind (further left) (written_by place s false)

abbrev pub assigned : Place → List Spotting → Around → Scope → List Part → Walk Indices
assigned place [] around scope parts = wrong_value place
assigned place (t ∷ ts) around scope parts =
    bind (t around scope parts) (then_assigned (assigned_to place ts (assigned place ts around scope) around scope))
