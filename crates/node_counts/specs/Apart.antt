-- In definitions whose nodes have different numbers each note of what a node makes or calls is told apart from the others, and each node gives the
-- numbers of its value once, each arm those of what it matches.
use Rattle.std.specs.Prelude.{◌≡◌, ℕ, true, List, [], ◌∷◌, ◌++◌, Option, Some, None}
use Rattle.sail_core.specs.Nodes.{AllDiffer, numbers}
use Rattle.sail_core.specs.declared.model.Direction.{Direction}
use Rattle.sail_core.specs.declared.model.Function.{Function}
use Rattle.sail_core.specs.declared.model.Opening.{Opening}
use Rattle.sail_core.specs.declared.tree.Core.{Core}
use Rattle.pattern_leaves.specs.Settings.{Around}
use Rattle.size_notes.specs.Bodies.{body_of, function_bodies, mapping_read, opening_body}
use Rattle.node_counts.specs.Told.{all_noted, are_apart, are_single}

-- a function's numbers: those of its body and of its measure, and where the result is made
abbrev pub measure_numbers : Option Core → List ℕ
measure_numbers None = []
measure_numbers (Some measure) = numbers measure

abbrev pub function_numbers : Function → List ℕ
function_numbers f = numbers f.body ++ (measure_numbers f.measure ++ (f.last ∷ []))

pub record AreApart (around : Around) : Type 0 where
  pub function : (f : Function) → AllDiffer (function_numbers f) → are_apart (all_noted (function_bodies around f)) ≡ true
  pub mapping : (m n : Direction) → AllDiffer (numbers m.body ++ numbers n.body) → are_apart (all_noted (body_of (mapping_read around m n) ∷ [])) ≡ true
  pub opening : (o : Opening) → AllDiffer (numbers o.value) → are_apart (all_noted (opening_body around o ∷ [])) ≡ true

abbrev pub NotesAreApart : Type 0
NotesAreApart = (around : Around) → AreApart around

pub record AreSingle (around : Around) : Type 0 where
  pub function : (f : Function) → AllDiffer (function_numbers f) → are_single (all_noted (function_bodies around f)) ≡ true
  pub mapping : (m n : Direction) → AllDiffer (numbers m.body ++ numbers n.body)
      → are_single (all_noted (body_of (mapping_read around m n) ∷ [])) ≡ true
  pub opening : (o : Opening) → AllDiffer (numbers o.value) → are_single (all_noted (opening_body around o ∷ [])) ≡ true

abbrev pub NumbersAreGivenOnce : Type 0
NumbersAreGivenOnce = (around : Around) → AreSingle around
