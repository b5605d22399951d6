-- What is needed of shapes and values so that the static choice of an overload's member is the choice by values.
use Rattle.std.specs.Prelude.{◌≡◌, ℕ, true, List, map, Some}
use Rattle.sail_types.specs.Shapes.{fits, put, shares}
use Rattle.sail_types.specs.declared.shapes.Shape.{Shape}
use Rattle.sail_types.specs.declared.shapes.Shape.TheVariants as V
use Rattle.sail_types.specs.declared.table.Types.{Types}
use Rattle.sail_types.specs.declared.values.Value.{Value}
use Rattle.sail_core.specs.Making as Core
use Rattle.shape_joins.specs.Filling.{fills, fill_all}
use Rattle.shape_joins.specs.Learning.{learn, learn_all, holes}
use Rattle.sail_meaning.specs.Text.{Callee}
use Rattle.sail_meaning.specs.Choice.{first_fitting}
use Rattle.shape_rules.specs.declared.callees.Candidate.{Candidate}
use Rattle.shape_rules.specs.Calls.{Chosen, chosen}
use Rattle.shape_meanings.specs.Whole.{Choice, all_below}
use Rattle.shape_meanings.specs.Keeping.{FitAll}
use Rattle.shape_meanings.specs.Worlds.{Apply, StandsFor, StandForEach, Distinct}

-- a value of a shape is one of the shape with its open parts filled
abbrev pub ValuesFill : Type 0
ValuesFill = (types : Types) (v : Value) (c : Choice) (s t : Shape) → fills s t ≡ true → fits types v (put c s) ≡ true → fits types v (put c t) ≡ true

-- two shapes that one value has may share values
abbrev pub ValuesShare : Type 0
ValuesShare = (types : Types) (v : Value) (s t : Shape) → fits types v s ≡ true → fits types v t ≡ true → shares s t ≡ true

-- where some shapes in the place of their variables make parameters the shapes of arguments, the variables can be learnt from these
abbrev pub LearnsWhatThereIs : Type 0
LearnsWhatThereIs =
    (params : List Shape) (count : ℕ) (ss : List Shape) (e : ℕ → Shape) → all_below count params ≡ true → fill_all ss (map (put e) params) ≡ true
    → ((i : ℕ) → fills V.Hole (e i) ≡ true) → (known : List Shape) × (learn_all (map learn params) ss (holes count) ≡ Some known)

-- the member that is chosen by the shapes of the arguments stands for the first callee that their values fit
abbrev pub ChoicesAreTheSame : Type 0
ChoicesAreTheSame =
    (types : Types) (registers : List Shape) (thrown : Shape) (wc : Core.World Value) (apply : Apply) (fs : List Candidate) (callees : List Callee)
    → StandForEach types registers thrown wc apply fs callees → Distinct fs
    → (vs : List Value) (c : Choice) (ss : List Shape) (x : Chosen) → FitAll types c ss vs → chosen fs ss ≡ Some x
    → (callee : Callee) × (first_fitting types callees vs ≡ Some callee) × StandsFor types registers thrown wc apply x.candidate callee
