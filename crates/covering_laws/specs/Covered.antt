-- Which functions at work are covered by the instances of a model, what is tested of an accepted list, and what it gives.
use Rattle.std.specs.Prelude.{◌≡◌, ◌*◌, ◌/◌, ℕ, suc, ℤ, pos, nat_eq, nat_lt, Bool, true, false, ◌&&◌, List, [], ◌∷◌, map, slice_get}
use Rattle.std.specs.Prelude.{length, Option, Some, None, Ok, is_some, option_map, if◌then◌else◌}
use Rattle.std.specs.List.{list_all, list_any}
use Rattle.sail_types.specs.Numbers.{Positive}
use Rattle.sail_types.specs.Places.{Given, only}
use Rattle.sail_types.specs.Sums.{and_then}
use Rattle.sail_types.specs.declared.numbers.Index.{Index}
use Rattle.sail_types.specs.declared.numbers.Index.TheVariants as N
use Rattle.sail_types.specs.declared.table.Types.{Types}
use Rattle.sail_types.specs.declared.types.Typ.{Typ}
use Rattle.sail_types.specs.declared.values.Value.{Value}
use Rattle.sail_core.specs.Numbers.{same_given}
use Rattle.sail_core.specs.declared.model.CoreModel.{CoreModel}
use Rattle.sail_core.specs.declared.model.Direction.{Direction}
use Rattle.sail_core.specs.declared.model.Function.{Function}
use Rattle.constraint_gen.specs.Models.{around_of}
use Rattle.size_values.specs.declared.constants.Constant.{Constant}
use Rattle.size_values.specs.declared.constants.Constant.TheVariants as C
use Rattle.size_values.specs.declared.sized.Sized.{Sized}
use Rattle.size_values.specs.Numbers.{known_at, known_of, nothing_known}
use Rattle.size_values.specs.Sized.{all_eq}
use Rattle.size_laws.specs.Told.{typ_told}
use Rattle.size_splits.specs.Bodies.{Body}
use Rattle.size_notes.specs.Bodies.{bodies_of}
use Rattle.monomorph.specs.declared.found.Found.{Found}
use Rattle.monomorph.specs.declared.found.Found.TheVariants as F
use Rattle.sized_nodes.specs.declared.trees.Instance.{Instance}
use Rattle.monomorph.specs.Found.{found_eq}
use Rattle.monomorph.specs.Instances.{model_of, one_or_none, or_none}
use Rattle.monomorph.specs.Lasts.{Model}
use Rattle.checked_meaning.specs.Checked.{Cases, Checks}
use Rattle.sized_nodes.specs.declared.trees.SizedInstance.{SizedInstance}
use Rattle.sized_nodes.specs.declared.trees.SizedCore.{SizedCore}
use Rattle.sized_trees.specs.Trees.{sized_core}
use Rattle.sized_meanings.specs.Sized.{entered, numbers_of}
use Rattle.told_sizes.specs.Among.{typ_among}
use Rattle.told_sizes.specs.Exact.{is_exact, reading_tells}
use Rattle.note_laws.specs.Ways.{core_reached}
use Rattle.met_notes.specs.Covers.{Covers, DirectionsPaired}
use Rattle.soundness_steps.specs.Works.{Coverage, Setting, Work}
use Rattle.soundness_calls.specs.Directions.{bare_type}
use Rattle.soundness_calls.specs.Premises.{own_of, own_type}
use Rattle.covering_laws.specs.Apart.{GivesKinds, NumbersApart}
use Rattle.covering_laws.specs.Given.{bodies_given, cases_given}
use Rattle.node_counts.specs.Told.{all_noted}
pub use Rattle.tabled_cores.specs.Cores.{all_found, or_nothing}

-- ---- which functions at work are covered: for the numbers and types of the instance at their place; or the first of a function, as an event enters it

abbrev pub same_option : Option Given → Option Given → Bool
same_option None None = true
same_option (Some x) (Some y) = same_given x y
same_option o p = false

abbrev pub same_numbers : List (Option Given) → List (Option Given) → Bool
same_numbers [] [] = true
same_numbers (x ∷ xs) (y ∷ ys) = same_option x y && same_numbers xs ys
same_numbers xs ys = false

abbrev pub is_at : Work → SizedInstance → Bool
is_at x s = nat_eq s.instance.function x.function && (same_numbers (numbers_of s.instance) x.instance.numbers && all_eq x.own s.instance.types)

abbrev pub if_at : Work → SizedInstance → Option SizedInstance
if_at x s = only (is_at x s) s

abbrev pub first_of : ℕ → List SizedInstance → Option SizedInstance
first_of f [] = None
first_of f (s ∷ ss) = if nat_eq s.instance.function f then Some s else first_of f ss

abbrev pub at_first : Work → List SizedInstance → Option SizedInstance
at_first x instances = if nat_eq x.instance.place 0 then and_then (first_of x.function instances) (if_at x) else None

abbrev pub at_place : Work → Option SizedInstance → List SizedInstance → Option SizedInstance
at_place x None instances = None
at_place x (Some s) instances = if nat_eq s.instance.function x.function then if_at x s else at_first x instances

abbrev pub at_work : List SizedInstance → Work → Option SizedInstance
at_work instances x = at_place x (slice_get instances x.instance.place) instances

abbrev pub function_covered : SizedCore → Work → Bool
function_covered c x = is_some (at_work c.instances x)

-- ---- which directions of mappings are covered: those of mappings that are found

abbrev pub is_found : List Found → ℕ → Bool
is_found all d = list_any (found_eq (F.Mapping (d / 2))) all

abbrev pub covered_by : CoreModel → SizedCore → Coverage
covered_by core c = record {
  function = function_covered c;
  direction = is_found (all_found (model_of core (bodies_of core)));
  exact = true;
  fitted = false;
}

-- ---- what is tested of instances: their bodies, and the sizes of parameters

abbrev pub known_in : List (Option ℤ) → ℕ → Constant
known_in zs = known_at (known_of zs)

-- a variable of the function's own whose number is known
abbrev pub is_fixed : (ℕ → Constant) → Index → Bool
is_fixed of (N.Number t) = is_exact of t
is_fixed of (N.Truth c) = true

abbrev pub parameter_tested : Types → List (Option ℤ) → List Sized → Function → Typ → Bool
parameter_tested types zs own f t =
    typ_among types t (map (is_fixed (known_in zs)) (own_of f)) && reading_tells types (length own) (known_in zs) (own_type f t)

abbrev pub function_tested : Types → Instance → Option Function → Bool
function_tested types y None = true
function_tested types y (Some f) =
    list_all (parameter_tested types y.numbers y.types f) f.parameters

abbrev pub instance_tested : Model → Instance → Bool
instance_tested m y =
    bodies_given m.core.types m.sizing y.numbers y.types (or_none (slice_get m.bodies.functions y.function))
    && function_tested m.core.types y (slice_get m.core.functions y.function)

-- ---- bodies of no function

abbrev pub body_tested : Model → Body → Bool
body_tested m b = bodies_given m.core.types m.sizing [] [] (b ∷ [])

-- ---- mappings that are found: what they take tells the sizes at which it is opened

abbrev pub bare_tells : Types → Typ → Bool
bare_tells types t = reading_tells types 0 (known_at nothing_known) (bare_type t)

abbrev pub takes_tested : Types → Option Direction → Bool
takes_tested types None = true
takes_tested types (Some d) = bare_tells types d.parameter

abbrev pub direction_tested : Model → Body → ℕ → Bool
direction_tested m b d = body_tested m b && takes_tested m.core.types (slice_get m.core.directions d)

abbrev pub mapping_tested : Model → ℕ → Option Body → Bool
mapping_tested m i None = true
mapping_tested m i (Some b) = direction_tested m b (2 * i) && direction_tested m b (suc (2 * i))

-- ---- all of a model: what is found, and what is worked out once

abbrev pub found_tested : Model → Found → Bool
found_tested m (F.Function y) = instance_tested m y
found_tested m (F.Mapping i) = mapping_tested m i (slice_get m.bodies.mappings i)

abbrev pub model_tested : Model → List Found → Bool
model_tested m all =
    list_all (found_tested m) all && list_all (body_tested m) m.bodies.openings

abbrev pub core_tested : CoreModel → Bool
core_tested core = model_tested (model_of core (bodies_of core)) (all_found (model_of core (bodies_of core)))

-- ---- ranks of directions: what the patterns of a mapping name is of a lower rank than either of its directions

abbrev pub is_lower : (ℕ → ℕ) → ℕ → ℕ → Bool
is_lower rank d e = nat_lt (rank e) (rank d)

abbrev pub both_fall : (ℕ → ℕ) → ℕ → Direction → Direction → Bool
both_fall rank d m n = core_reached (is_lower rank d) m.body && core_reached (is_lower rank d) n.body

-- from the mapping of this number on
abbrev pub pairs_fall : (ℕ → ℕ) → ℕ → List Direction → Bool
pairs_fall rank i (m ∷ n ∷ ms) = (both_fall rank (2 * i) m n && both_fall rank (suc (2 * i)) m n) && pairs_fall rank (suc i) ms
pairs_fall rank i ms = true

abbrev pub ways_fall : CoreModel → (ℕ → ℕ) → Bool
ways_fall m rank = pairs_fall rank 0 m.directions

abbrev pub instance_of : SizedInstance → Instance
instance_of s = s.instance

-- ---- the checks: of the instance that is entered, of a mapping, and of what is worked out once

-- where nothing is said of nodes
abbrev pub no_cases : Cases
no_cases = record { makes = λ k takes v noted. None; notes = λ k v noted. None; calls = λ k takes noted. None }

abbrev pub instance_cases : Model → List Instance → Option SizedInstance → Cases
instance_cases m list None = no_cases
instance_cases m list (Some s) =
    cases_given m.core.types m.sizing s.instance.numbers s.instance.types list (all_noted (or_none (slice_get m.bodies.functions s.instance.function)))

abbrev pub body_cases : Model → List Instance → Option Body → Cases
body_cases m list o = cases_given m.core.types m.sizing [] [] list (all_noted (one_or_none o))

-- parameters come in at their types
abbrev pub all_told : Types → List Sized → List Constant → List Typ → List Value → List Sized
all_told types own cs (t ∷ ts) (v ∷ vs) = typ_told types own t cs v ∷ all_told types own cs ts vs
all_told types own cs ts vs = []

-- the numbers of an instance: no size hangs on a variable that isn't a size variable
abbrev pub constant_of : Option ℤ → Constant
constant_of None = C.Number (pos 0)
constant_of (Some z) = C.Number z

abbrev pub constants_of : List (Option ℤ) → List Constant
constants_of zs = map constant_of zs

abbrev pub parameters_told : Types → List Value → Instance → Option Function → Option (List Sized)
parameters_told types vs y None = None
parameters_told types vs y (Some f) = Some (all_told types y.types (constants_of y.numbers) f.parameters vs)

abbrev pub entered_told : CoreModel → List Value → Option SizedInstance → Option (List Sized)
entered_told core vs None = None
entered_told core vs (Some s) = parameters_told core.types vs s.instance (slice_get core.functions s.instance.function)

abbrev pub taken_told : Types → Value → Direction → Sized
taken_told types v d = typ_told types [] d.parameter [] v

abbrev pub model_checks : Model → List Instance → List SizedInstance → Checks
model_checks m list instances = record {
  types = m.core.types;
  function = λ f place nu. instance_cases m list (entered instances f place nu);
  enters = λ f place nu vs. entered_told m.core vs (entered instances f place nu);
  direction = λ d. body_cases m list (slice_get m.bodies.mappings (d / 2));
  takes = λ d v. option_map (taken_told m.core.types v) (slice_get m.core.directions d);
  opening = λ i. body_cases m list (slice_get m.bodies.openings i);
}

abbrev pub checks_given : CoreModel → SizedCore → Checks
checks_given core c = model_checks (model_of core (bodies_of core)) (map instance_of c.instances) c.instances

-- ---- what it gives

abbrev pub setting_of : CoreModel → Positive → ℕ → SizedCore → Setting
setting_of m past hart c = record { around = around_of m; past = past; hart = hart; covered = covered_by m c }

-- an accepted list that is tested
abbrev pub ModelsAreRead : Type 0
ModelsAreRead =
    (m : CoreModel) (past : Positive) (hart : ℕ) (rank : ℕ → ℕ) (c : SizedCore) → NumbersApart m → GivesKinds m → DirectionsPaired m
    → sized_core m ≡ Ok c → core_tested m ≡ true → ways_fall m rank ≡ true → Covers (setting_of m past hart c) m (checks_given m c) rank
