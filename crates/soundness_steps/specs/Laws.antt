-- What a node makes and notes beside its walk.
use Rattle.std.specs.Prelude.{◌≡◌, ℕ, true, List}
use Rattle.sail_types.specs.declared.values.Value.{Value}
use Rattle.sail_core.specs.declared.tree.Giver.{Giver}
use Rattle.value_indices.specs.declared.indices.Indices.{Indices}
use Rattle.value_indices.specs.declared.notes.Fact.{Fact}
use Rattle.value_indices.specs.declared.notes.Made.{Made}
use Rattle.value_indices.specs.Steps.{Walk, bind, given_note, made_note, note}
use Rattle.checked_meaning.specs.Checked.{checked}
use Rattle.checked_meaning.specs.Items.{Item}
use Rattle.value_laws.specs.Belonging.{Integers, has, standing}
use Rattle.value_laws.specs.Known.{Point, Agree}
use Rattle.soundness_steps.specs.Noted.{is_made, variables_given}
use Rattle.soundness_steps.specs.Steps.{Beside, Gives}
use Rattle.soundness_steps.specs.Values.{AllTyped, IsMadeAs}
use Rattle.soundness_steps.specs.Works.{Scene}

-- a node makes this value of operands of these types, at a type that is right there; it isn't stuck
abbrev pub NodesMakeValues : Type 0
NodesMakeValues = (q : Scene) (n : ℕ) (f : Point n) (facts : List Fact) (k : ℕ) (is : List Indices) (made : Made) (xs : List Item) (v : Value)
    → AllTyped q.set q.work f is xs → ((g : Integers) → Agree f g → is_made q.set.around.types q.set.past q.work g made v ≡ true)
    → Beside q n f facts (note (λ fs. made_note fs k is made)) ((checked q.set.around.types q.cases).make k xs v)
    (λ m p t x. (x.val ≡ v) × IsMadeAs q.set q.work p made v x.typ)

-- the numbers that a value gives are noted behind it, as what comes into force says
abbrev pub NodesNoteNumbers : Type 0
NodesNoteNumbers = (q : Scene) (n : ℕ) (f : Point n) (facts : List Fact) (giver : Giver) (i : Indices) (v : Value) (w : Walk (Unit {0}))
    → Gives w (variables_given i)
    → ((g : Integers) → Agree f g → has q.set.around.types (standing q.set.past g) q.work.types i v ≡ true)
    → Beside q n f facts (bind (note (λ fs. given_note fs giver i)) (λ t. w)) ((checked q.set.around.types q.cases).note giver v) (λ m p t x. Unit {0})
