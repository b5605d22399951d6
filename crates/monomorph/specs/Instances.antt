-- The instances of a model: functions for the numbers of their size variables, in order of finding; or the first size that is refused
-- (Sail language manual, "Type variables").
use Rattle.std.specs.Prelude.{◌≡◌, ◌⊎◌, ℕ, zero, suc, ◌+◌, List, [], ◌∷◌, length, slice_get, Option, Some, None, Result, Ok, Err}
use Rattle.sail_core.specs.declared.model.CoreModel.{CoreModel}
use Rattle.size_splits.specs.Bodies.{Body}
use Rattle.size_splits.specs.Sizing.{sizing_of}
use Rattle.size_notes.specs.Bodies.{Bodies, bodies_of}
use Rattle.monomorph.specs.declared.error.MonoError.{MonoError}
use Rattle.monomorph.specs.declared.error.MonoError.TheVariants as E
use Rattle.monomorph.specs.declared.found.Found.{Found}
use Rattle.monomorph.specs.declared.found.Found.TheVariants as F
use Rattle.sized_nodes.specs.declared.trees.Instance.{Instance}
use Rattle.monomorph.specs.Found.{Answer, and_then, instances_in, most_instances}
use Rattle.monomorph.specs.Lasts.{Model, read_bodies, read_lasts}

-- ---- the bodies of what is found; what is found there comes behind all others

abbrev pub or_none : Option (List Body) → List Body
or_none None = []
or_none (Some bs) = bs

abbrev pub one_or_none : Option Body → List Body
one_or_none None = []
one_or_none (Some b) = b ∷ []

abbrev pub read_instance : Model → Instance → List Found → Answer
read_instance m x = read_bodies m x.numbers x.types (or_none (slice_get m.bodies.functions x.function))

abbrev pub read_mapping : Model → ℕ → List Found → Answer
read_mapping m i = read_bodies m [] [] (one_or_none (slice_get m.bodies.mappings i))

abbrev pub read_found : Model → Found → List Found → Answer
read_found m (F.Function x) = read_instance m x
read_found m (F.Mapping i) = read_mapping m i

-- ---- the list: this one and those behind it are not yet read

abbrev pub grow_from : Model → List Found → Option Found → (List Found → Answer) → Answer
grow_from m found None next = Ok found
grow_from m found (Some x) next = and_then (read_found m x found) next

abbrev pub grow : ℕ → Model → ℕ → List Found → Answer
grow zero m i found = Ok found
grow (suc times) m i found = grow_from m found (slice_get found i) (grow times m (suc i))

-- enough for all, since there are no more instances and mappings
abbrev pub times_enough : Model → ℕ
times_enough m = suc (most_instances + length m.bodies.mappings)

-- what the bodies lead to, then what comes last, and what that leads to
abbrev pub found_from : Model → List Found → Answer
found_from m found =
    and_then (grow (times_enough m) m 0 found) (λ first. and_then (read_lasts m first) (grow (times_enough m) m (length first)))

-- ---- all

-- of no variables: those of the event
abbrev pub entry : ℕ → Found
entry f = F.Function (record { function = f; numbers = []; types = [] })

abbrev pub model_of : CoreModel → Bodies → Model
model_of core bodies = record { core = core; bodies = bodies; sizing = sizing_of core bodies.functions }

abbrev pub all_found : Model → Answer
all_found m = found_from m (entry m.core.reset ∷ entry m.core.step ∷ [])

abbrev pub listed : Answer → Result (List Instance) MonoError
listed (Ok found) = Ok (instances_in found)
listed (Err e) = Err e

abbrev pub instances_of : Model → Result (List Instance) MonoError
instances_of m = listed (all_found m)

-- the instances of a model, `reset` and `step` first
abbrev pub instances : CoreModel → Result (List Instance) MonoError
instances core = instances_of (model_of core (bodies_of core))

-- an answer is that of the definition, or memory is wanting
abbrev pub IsMet : Result (List Instance) MonoError → Result (List Instance) MonoError → Type 0
IsMet result answer = (result ≡ answer) ⊎ (result ≡ Err E.OutOfMemory)
