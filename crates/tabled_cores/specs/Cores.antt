-- What is tested of a core for the tables of all that is found.
use Rattle.std.specs.Prelude.{ℕ, suc, ◌*◌, Bool, true, ◌&&◌, List, [], slice_get, Option, Some, None, Ok, Err}
use Rattle.std.specs.List.{list_all}
use Rattle.sail_types.specs.declared.table.Types.{Types}
use Rattle.sail_types.specs.declared.types.Typ.{Typ}
use Rattle.sail_core.specs.declared.model.CoreModel.{CoreModel}
use Rattle.sail_core.specs.declared.model.Direction.{Direction}
use Rattle.function_notes.specs.Functions.{reading_under}
use Rattle.size_values.specs.Numbers.{known_at, known_of, with_picked}
use Rattle.size_splits.specs.Bodies.{Body}
use Rattle.monomorph.specs.Bodies.{bodies_of}
use Rattle.monomorph.specs.declared.found.Found.{Found}
use Rattle.monomorph.specs.declared.found.Found.TheVariants as F
use Rattle.sized_nodes.specs.declared.trees.Instance.{Instance}
use Rattle.monomorph.specs.Found.{Answer, instances_in}
use Rattle.monomorph.specs.Instances as instances
use Rattle.monomorph.specs.Instances.{model_of, or_none}
use Rattle.monomorph.specs.Lasts.{Model}
use Rattle.told_sizes.specs.Exact.{reading_settles}
use Rattle.told_sizes.specs.Passing.{reading_passes}
use Rattle.tabled_cores.specs.Bodies.{bodies_tabled, body_tabled}
use Rattle.tabled_cores.specs.Signed.{function_signed}

-- ---- instances: their bodies and their parameters

abbrev pub instance_bodies : Bool → Model → List Instance → Instance → Bool
instance_bodies given m list y =
    bodies_tabled given m.core.types m.sizing y.numbers y.types list (or_none (slice_get m.bodies.functions y.function))

abbrev pub instance_parameters : Bool → Model → Instance → Bool
instance_parameters given m y = function_signed given m.core.types y (slice_get m.core.functions y.function)

abbrev pub instance_tabled : Bool → Model → List Instance → Instance → Bool
instance_tabled given m list y = instance_bodies given m list y && instance_parameters given m y

-- ---- bodies of no function, and mappings with what their directions take

abbrev pub alone_tabled : Bool → Model → List Instance → Body → Bool
alone_tabled given m list b = body_tabled given m.core.types m.sizing [] [] list b

-- where nothing is known
abbrev pub bare_tabled : Types → Typ → Bool
bare_tabled types t =
    reading_passes types 0 (known_at (with_picked (known_of []) [])) (reading_under t [])
    && reading_settles types 0 (known_at (with_picked (known_of []) [])) (reading_under t [])

abbrev pub takes_tabled : Types → Option Direction → Bool
takes_tabled types None = true
takes_tabled types (Some d) = bare_tabled types d.parameter

abbrev pub mapping_body : Bool → Model → List Instance → ℕ → Body → Bool
mapping_body given m list i b =
    alone_tabled given m list b
    && (takes_tabled m.core.types (slice_get m.core.directions (2 * i)) && takes_tabled m.core.types (slice_get m.core.directions (suc (2 * i))))

abbrev pub mapping_tabled : Bool → Model → List Instance → ℕ → Option Body → Bool
mapping_tabled given m list i None = true
mapping_tabled given m list i (Some b) = mapping_body given m list i b

-- ---- all of a model: what is found, and what is worked out once

abbrev pub found_tabled : Bool → Model → List Instance → Found → Bool
found_tabled given m list (F.Function y) = instance_tabled given m list y
found_tabled given m list (F.Mapping i) = mapping_tabled given m list i (slice_get m.bodies.mappings i)

abbrev pub model_tabled : Bool → Model → List Found → Bool
model_tabled given m all =
    list_all (found_tabled given m (instances_in all)) all && list_all (alone_tabled given m (instances_in all)) m.bodies.openings

abbrev pub or_nothing : Answer → List Found
or_nothing (Ok found) = found
or_nothing (Err e) = []

abbrev pub all_found : Model → List Found
all_found m = or_nothing (instances.all_found m)

-- where a case may go by numbers that its value gives, or not
abbrev pub core_tabled : Bool → CoreModel → Bool
core_tabled given core = model_tabled given (model_of core (bodies_of core)) (all_found (model_of core (bodies_of core)))
