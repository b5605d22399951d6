-- What is taken of a model: the numbers of its nodes differ in each definition, and arguments give its functions' variables what their kinds say.
use Rattle.std.specs.Prelude.{◌≡◌, ℕ, Bool, true, false, List, [], ◌∷◌, ◌++◌, Some, slice_get}
use Rattle.sail_types.specs.declared.numbers.Index.{Index}
use Rattle.sail_types.specs.declared.numbers.Index.TheVariants as N
use Rattle.sail_types.specs.declared.table.Parameter.{Parameter}
use Rattle.sail_core.specs.Nodes.{AllDiffer, numbers}
use Rattle.sail_core.specs.declared.model.CoreModel.{CoreModel}
use Rattle.sail_core.specs.declared.model.Function.{Function}
use Rattle.sail_core.specs.declared.model.Opening.{Opening}
use Rattle.value_indices.specs.declared.indices.Indices.{Indices}
use Rattle.call_arguments.specs.Callees.{numbers_from}
use Rattle.size_splits.specs.Sizing.{is_truth_kind}
use Rattle.met_notes.specs.Met.{Pair, pairs}
use Rattle.node_counts.specs.Apart.{function_numbers}

pub record NumbersApart (m : CoreModel) : Type 0 where
  pub functions : (i : ℕ) (f : Function) → slice_get m.functions i ≡ Some f → AllDiffer (function_numbers f)
  pub mappings : (i : ℕ) (p : Pair) → slice_get (pairs m.directions) i ≡ Some p → AllDiffer (numbers p.forwards.body ++ numbers p.backwards.body)
  pub openings : (i : ℕ) (o : Opening) → slice_get m.openings i ≡ Some o → AllDiffer (numbers o.value)

-- what arguments give to the Int and Bool variables of a function is of their kinds, whatever the arguments are
abbrev pub is_truth_index : Index → Bool
is_truth_index (N.Number t) = false
is_truth_index (N.Truth c) = true

abbrev pub AreOfKinds : List Parameter → List Index → Type 0
AreOfKinds [] [] = Unit {0}
AreOfKinds (p ∷ ps) (j ∷ js) = (is_truth_index j ≡ is_truth_kind p.kind) × AreOfKinds ps js
AreOfKinds ps js = ⊥

abbrev pub GivesKinds : CoreModel → Type 0
GivesKinds m =
    (i : ℕ) (f : Function) → slice_get m.functions i ≡ Some f → (is : List Indices) → AreOfKinds f.variables (numbers_from 0 f.variables f.parameters is)
