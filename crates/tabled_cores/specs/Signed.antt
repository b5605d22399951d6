-- What is tested of parameters, so that arguments come in at the types that a signature tells (Sail language manual, "Type variables").
use Rattle.std.specs.Prelude.{ℕ, Bool, true, List, [], Option, Some, None}
use Rattle.std.specs.List.{list_all}
use Rattle.sail_types.specs.declared.numbers.Index.{Index}
use Rattle.sail_types.specs.declared.table.Types.{Types}
use Rattle.sail_types.specs.declared.types.Typ.{Typ}
use Rattle.sail_core.specs.declared.model.Function.{Function}
use Rattle.value_indices.specs.declared.notes.Made.TheVariants as Makes
use Rattle.function_notes.specs.Functions.{reading_under}
use Rattle.sized_nodes.specs.declared.trees.Instance.{Instance}
use Rattle.monomorph.specs.Reading.{Inside}
use Rattle.sized_trees.specs.Trees.{outside, own_went}
use Rattle.tabled_cores.specs.Notes.{made_tested}

-- its type, where the function's variables stand for these
abbrev pub typ_signed : Bool → Inside → List Index → Typ → Bool
typ_signed given r is t = made_tested given r [] [] (Makes.ByType (reading_under t is))

-- under the function's own variables, of which there are so many
abbrev pub typs_signed : Bool → Types → Instance → ℕ → List Index → List Typ → Bool
typs_signed given types y n is ts = list_all (typ_signed given (outside types y n) is) ts

abbrev pub parameters_signed : Bool → Types → Instance → Function → Bool
parameters_signed given types y f = typs_signed given types y (own_went f).next (own_went f).value f.parameters

abbrev pub function_signed : Bool → Types → Instance → Option Function → Bool
function_signed given types y None = true
function_signed given types y (Some f) = parameters_signed given types y f
