-- The walk over a model: functions, mappings, top-level lets, registers and measures, in the order of the text.
use Rattle.std.specs.Prelude.{ℕ, nat_eq, nat_lt, Bool, true, ◌&&◌, ◌||◌, List, [], ◌∷◌, ◌++◌, map, slice_get, take}
use Rattle.std.specs.Prelude.{Option, Some, None, if◌then◌else◌}
use Rattle.std.specs.List.{list_all}
use Rattle.sail_base.specs.declared.place.Place.{Place}
use Rattle.sail_types.specs.declared.numbers.Index.{Index}
use Rattle.sail_types.specs.declared.numbers.Index.TheVariants as N
use Rattle.model_state.specs.declared.state.Register.{Register}
use Rattle.sail_core.specs.declared.model.CoreModel.{CoreModel}
use Rattle.sail_core.specs.declared.model.Direction.{Direction}
use Rattle.sail_core.specs.declared.model.Function.{Function}
use Rattle.sail_core.specs.declared.model.Opening.{Opening}
use Rattle.sail_core.specs.declared.model.OpeningKind.{OpeningKind}
use Rattle.sail_core.specs.declared.model.OpeningKind.TheVariants as O
use Rattle.sail_core.specs.declared.patterns.Arm.{Arm}
use Rattle.sail_core.specs.declared.tree.Core.{Core, Core-F, out-Core}
use Rattle.value_indices.specs.declared.indices.Indices.{Indices, fold-Indices}
use Rattle.value_indices.specs.declared.indices.Indices.TheOpen as W
use Rattle.value_indices.specs.declared.indices.Indices.TheOpen.{Indices-F, Reading-F}
use Rattle.value_indices.specs.declared.indices.Reading.{Reading, fold-Reading}
use Rattle.value_indices.specs.declared.indices.Reading.TheVariants as R
use Rattle.value_indices.specs.Steps.{Note, Walk, Went, bind, give, wrong}
use Rattle.wide_types.specs.Widening.{is_below, is_con_below, widened}
use Rattle.pattern_leaves.specs.Settings.{Around}
use Rattle.pattern_leaves.specs.declared.names.Bound.{Bound}
use Rattle.pattern_leaves.specs.declared.names.Held.{Held}
use Rattle.pattern_leaves.specs.declared.names.Held.TheVariants as H
use Rattle.pattern_leaves.specs.declared.names.TopLevel.{TopLevel}
use Rattle.pattern_leaves.specs.declared.names.TopLevel.TheVariants as L
use Rattle.call_arguments.specs.declared.aims.Aim.{Aim}
use Rattle.call_arguments.specs.declared.aims.Aim.TheVariants as Aims
use Rattle.call_arguments.specs.Aims.{aimed}
use Rattle.function_notes.specs.Parts.{Part}
use Rattle.function_notes.specs.Statements.{let_names as bound_by_let}
use Rattle.function_notes.specs.Expressions.{part}
use Rattle.function_notes.specs.Functions.{function_walk, measure_walk, mapping_walk}

-- ---- top-level lets and initial values: they are plain (Sail language manual, "Let bindings", "Registers")

-- what is known in them: named types, and names of lets; nothing is called or thrown, and no register is read
abbrev pub apart : Around → Around
apart around = record {
  types = around.types;
  exception = None;
  registers = [];
  functions = [];
  directions = [];
  lets = around.lets;
  numbers = [];
  answer = None;
}

-- a `let` with no name in scope
abbrev pub let_walk : Around → Place → Arm → Part → Walk (List Bound)
let_walk around place arm a = bound_by_let place arm a (apart around) []

abbrev pub initial_aim : Register → Aim
initial_aim r = aimed Aims.Due (R.Of r.typ [] [])

abbrev pub initial_walk : Around → Register → Part → Walk (Unit {0})
initial_walk around r a = bind (a.walk (apart around) [] (initial_aim r)) (λ i. give tt)

-- an initial value is of a register that is there
abbrev pub initial_of : Around → Place → Option Register → Part → Walk (Unit {0})
initial_of around place None a = wrong place
initial_of around place (Some r) a = initial_walk around r a

abbrev pub opening_walk : Around → Place → OpeningKind → Part → Walk (Unit {0})
opening_walk around place (O.Let arm) a = bind (let_walk around place arm a) (λ found. give tt)
opening_walk around place (O.Register r) a = initial_of around place (slice_get around.registers r) a

-- ---- what a name of a top-level let is elsewhere

abbrev pub index_constant : Index → Bool
index_constant (N.Number t) = is_below 0 t
index_constant (N.Truth c) = is_con_below 0 c

abbrev pub indices_constant : Indices-F Bool Bool → Bool
indices_constant (W.Truth c) = is_con_below 0 c
indices_constant (W.Bits t) = is_below 0 t
indices_constant (W.Integer t) = is_below 0 t
indices_constant (W.List r) = r
indices_constant (W.Vector n r) = is_below 0 n && r
indices_constant (W.Tuple bs) = list_all (λ b. b) bs
indices_constant (W.Named u is rs) = list_all index_constant is && list_all (λ b. b) rs
indices_constant i = true

abbrev pub reading_constant : Reading-F Bool Bool → Bool
reading_constant (W.Of t is rs) = list_all index_constant is && list_all (λ b. b) rs
reading_constant (W.Widened b) = b
reading_constant (W.Parts bs) = list_all (λ b. b) bs
reading_constant W.Hole = true

-- whether no part of it names a variable
abbrev pub is_constant : Indices → Bool
is_constant = fold-Indices Bool Bool indices_constant reading_constant

abbrev pub is_reading_constant : Reading → Bool
is_reading_constant = fold-Reading Bool Bool indices_constant reading_constant

abbrev pub read_as : List ℕ → Option Reading → Indices → TopLevel
read_as name (Some r) i = if is_constant i then L.Known i else L.Read name r
read_as name None i = if is_constant i then L.Known i else L.Read name (widened i)

abbrev pub held_as : Bound → Held → TopLevel
held_as b (H.Value i) = read_as b.name b.written i
held_as b (H.Var r) = L.Read b.name r

abbrev pub top_level : Bound → TopLevel
top_level b = held_as b b.held

abbrev pub let_names : Around → Place → Arm → Core → List TopLevel
let_names around place arm value = map top_level (let_walk around place arm (part value) [] 0).value

abbrev pub names_of : Around → Opening → OpeningKind → List TopLevel
names_of around o (O.Let arm) = let_names around o.place arm o.value
names_of around o (O.Register r) = []

-- behind an opening its names are known
abbrev pub behind_opening : Around → Opening → Around
behind_opening around o = record around { lets = around.lets ++ names_of around o o.kind }

-- each let sees those before it
abbrev pub lets_behind : Around → List Opening → Around
lets_behind around [] = around
lets_behind around (o ∷ os) = lets_behind (behind_opening around o) os

-- a model, where top-level lets bound these names
abbrev pub around_with : CoreModel → List TopLevel → Around
around_with m lets = record {
  types = m.types;
  exception = m.exception;
  registers = m.registers;
  functions = m.functions;
  directions = m.directions;
  lets = lets;
  numbers = [];
  answer = None;
}

abbrev pub around_of : CoreModel → Around
around_of m = lets_behind (around_with m []) m.openings

-- around the opening at a place, which sees the lets before it alone
abbrev pub around_opening : CoreModel → ℕ → Around
around_opening m i = lets_behind (around_with m []) (take i m.openings)

-- ---- definitions in the order of the text

pub record Definition : Type 0 where
  pub place : Place
  pub walk : Walk (Unit {0})

abbrev pub definition : Place → Walk (Unit {0}) → Definition
definition place walk = record { place = place; walk = walk }

abbrev pub is_before : Place → Place → Bool
is_before a b = nat_lt a.file b.file || (nat_eq a.file b.file && (nat_lt a.line b.line || (nat_eq a.line b.line && nat_lt a.column b.column)))

-- one more, behind those that stand before it
abbrev pub placed_among : Definition → List Definition → List Definition
placed_among d [] = d ∷ []
placed_among d (e ∷ es) = if is_before e.place d.place then e ∷ placed_among d es else d ∷ e ∷ es

abbrev pub in_order : List Definition → List Definition
in_order [] = []
in_order (d ∷ ds) = placed_among d (in_order ds)

abbrev pub core_place : Core-F Core → Place
core_place c = c.place

abbrev pub measure_definition : Around → Function → Option Core → List Definition
measure_definition around f None = []
measure_definition around f (Some measure) = definition (core_place (out-Core measure)) (measure_walk around f measure) ∷ []

abbrev pub function_listed : Around → Function → List Definition
function_listed around f = definition f.place (function_walk around f) ∷ measure_definition around f f.measure

abbrev pub function_definitions : Around → List Function → List Definition
function_definitions around [] = []
function_definitions around (f ∷ fs) = function_listed around f ++ function_definitions around fs

abbrev pub mapping_listed : Around → Direction → Direction → List Definition
mapping_listed around m n = definition m.place (mapping_walk around m n) ∷ []

-- a direction without the other one
abbrev pub half_listed : List Direction → List Definition
half_listed (m ∷ []) = definition m.place (wrong m.place) ∷ []
half_listed ms = []

abbrev pub mapping_definitions : Around → List Direction → List Definition
mapping_definitions around (m ∷ n ∷ ms) = mapping_listed around m n ++ mapping_definitions around ms
mapping_definitions around ms = half_listed ms

abbrev pub opening_listed : Around → Opening → List Definition
opening_listed around o = definition o.place (opening_walk around o.place o.kind (part o.value)) ∷ []

abbrev pub opening_definitions : Around → List Opening → List Definition
opening_definitions around [] = []
opening_definitions around (o ∷ os) = opening_listed around o ++ opening_definitions (behind_opening around o) os

abbrev pub listed : CoreModel → Around → List Definition
listed m around =
    function_definitions around m.functions ++ mapping_definitions around m.directions ++ opening_definitions (around_with m []) m.openings

abbrev pub definitions_under : CoreModel → Around → List Definition
definitions_under m around = in_order (listed m around)

abbrev pub definitions : CoreModel → List Definition
definitions m = definitions_under m (around_of m)

-- the walk over a definition, from nothing
abbrev pub from_nothing : Definition → Went (Unit {0})
from_nothing d = d.walk [] 0

-- the notes of a model, a list for each definition
abbrev pub notes : CoreModel → List (List Note)
notes m = map (λ d. (from_nothing d).notes) (definitions m)
