-- A model with constant sizes: its instances, each with the types of its parameters and of its result, and what is constant at the nodes of
-- its body (Sail language manual, "Type variables"). The trees are those of the core, whose nodes keep their numbers.
use Rattle.std.specs.Prelude.{◌≡◌, ◌⊎◌, ℕ, List, [], map, slice_get, Option, option_map, Result, Ok, Err}
use Rattle.sail_types.specs.declared.numbers.Index.{Index}
use Rattle.sail_types.specs.declared.table.Types.{Types}
use Rattle.sail_types.specs.declared.types.Typ.{Typ}
use Rattle.sail_core.specs.declared.model.CoreModel.{CoreModel}
use Rattle.sail_core.specs.declared.model.Function.{Function}
use Rattle.value_indices.specs.declared.notes.Made.TheVariants as Makes
use Rattle.value_indices.specs.Steps.{Went}
use Rattle.monomorph.specs.Functions.{own_indices, reading_under}
use Rattle.size_splits.specs.Bodies.{Body}
use Rattle.monomorph.specs.Bodies.{bodies_of}
use Rattle.monomorph.specs.declared.error.MonoError.{MonoError}
use Rattle.monomorph.specs.declared.error.MonoError.TheVariants as E
use Rattle.sized_nodes.specs.declared.trees.Instance.{Instance}
use Rattle.monomorph.specs.Instances.{instances_of, model_of, or_none}
use Rattle.monomorph.specs.Lasts.{Model}
use Rattle.monomorph.specs.Reading.{Inside}
use Rattle.sized_nodes.specs.declared.trees.NodeSizes.{NodeSizes}
use Rattle.sized_nodes.specs.declared.trees.Signature.{Signature}
use Rattle.sized_nodes.specs.declared.trees.SizedInstance.{SizedInstance}
use Rattle.sized_nodes.specs.declared.trees.SizedCore.{SizedCore}
use Rattle.sized_nodes.specs.declared.trees.Told.{Told}
use Rattle.sized_trees.specs.Bodies.{sized_bodies, told_at}

-- ---- the types of parameters and result, for the numbers and types of an instance: what such a type binds is counted from behind the function's own
-- variables on

abbrev pub own_went : Function → Went (List Index)
own_went f = own_indices f.variables [] 0

-- in no body
abbrev pub outside : Types → Instance → ℕ → Inside
outside types x n = record { types = types; sizing = []; numbers = x.numbers; own = x.types; variables = n; names = []; split = [] }

abbrev pub type_told : Inside → List Index → Typ → Told
type_told r is t = told_at r [] [] (Makes.ByType (reading_under t is))

abbrev pub types_told : Inside → List Index → List Typ → List Told
types_told r is ts = map (type_told r is) ts

abbrev pub signature_of : Inside → List Index → Function → Signature
signature_of r is f = record { parameters = types_told r is f.parameters; result = type_told r is f.result }

abbrev pub signature_under : Types → Instance → Function → Signature
signature_under types x f = signature_of (outside types x (own_went f).next) (own_went f).value f

abbrev pub signature_for : Types → Instance → Option Function → Option Signature
signature_for types x o = option_map (signature_under types x) o

-- ---- instances, mappings, and what is worked out once

abbrev pub instance_signature : Model → Instance → Option Signature
instance_signature m x = signature_for m.core.types x (slice_get m.core.functions x.function)

abbrev pub instance_bodies : Model → List Instance → Instance → List (List NodeSizes)
instance_bodies m list x = sized_bodies m list x.numbers x.types (or_none (slice_get m.bodies.functions x.function))

abbrev pub sized_instance : Model → List Instance → Instance → SizedInstance
sized_instance m list x = record { instance = x; signature = instance_signature m x; bodies = instance_bodies m list x }

abbrev pub sized_instances : Model → List Instance → List Instance → List SizedInstance
sized_instances m list xs = map (sized_instance m list) xs

-- bodies without type variables: of mappings, and of what is worked out once
abbrev pub plain_bodies : Model → List Instance → List Body → List (List NodeSizes)
plain_bodies m list bs = sized_bodies m list [] [] bs

abbrev pub sized_list : Model → List Instance → SizedCore
sized_list m list = record {
  instances = sized_instances m list list;
  mappings = plain_bodies m list m.bodies.mappings;
  openings = plain_bodies m list m.bodies.openings;
}

abbrev pub Answer : Type 0
Answer = Result SizedCore MonoError

abbrev pub sized_of : Model → Result (List Instance) MonoError → Answer
sized_of m (Ok list) = Ok (sized_list m list)
sized_of m (Err e) = Err e

abbrev pub sized_model : Model → Answer
sized_model m = sized_of m (instances_of m)

-- of the instances of a model, in their order; refused as they are
abbrev pub sized_core : CoreModel → Answer
sized_core core = sized_model (model_of core (bodies_of core))

-- an answer is that of the definition, or memory is wanting
abbrev pub IsMet : Answer → Answer → Type 0
IsMet result answer = (result ≡ answer) ⊎ (result ≡ Err E.OutOfMemory)
