-- Bodies that are tested together, as they are read for an instance.
use Rattle.std.specs.Prelude.{ℤ, Bool, true, List, Option}
use Rattle.std.specs.List.{list_all}
use Rattle.sail_types.specs.declared.table.Types.{Types}
use Rattle.value_indices.specs.Steps.{Note}
use Rattle.value_indices.specs.declared.notes.Fact.{Fact}
use Rattle.value_indices.specs.declared.notes.Step.{Step}
use Rattle.value_indices.specs.declared.notes.Step.TheVariants as S
use Rattle.size_values.specs.declared.sized.Sized.{Sized}
use Rattle.size_splits.specs.Bodies.{Body}
use Rattle.size_splits.specs.Sizing.{Sizing}
use Rattle.sized_nodes.specs.declared.trees.Instance.{Instance}
use Rattle.monomorph.specs.Reading.{Inside, reading_of}
use Rattle.tabled_cores.specs.Notes.{call_tested, made_tested, note_tabled, type_given}

-- as code reads a step, under what is in force there
abbrev pub step_tabled : Bool → List Instance → Inside → List Fact → Step → Bool
step_tabled given list r facts (S.Sizes place made) = type_given r facts made
step_tabled given list r facts (S.Makes k operands made) = made_tested given r facts operands made
step_tabled given list r facts (S.Calls place k operands callee js qs) = call_tested r list facts operands callee js qs
step_tabled given list r facts step = true

abbrev pub notes_tabled : Bool → List Instance → Inside → List Note → Bool
notes_tabled given list r ns = list_all (note_tabled given list r) ns

module _ (given : Bool) (types : Types) (sizing : Sizing) (zs : List (Option ℤ)) (own : List Sized) (list : List Instance) where
  abbrev pub body_tabled : Body → Bool
  body_tabled b = notes_tabled given list (reading_of types sizing zs own b) b.notes

  -- bodies that are read together, for these numbers and types
  abbrev pub bodies_tabled : List Body → Bool
  bodies_tabled bs = list_all body_tabled bs
