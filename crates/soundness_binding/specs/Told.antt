-- What the pattern of a `let` tells of its names: they are of values, none of a `var`, and a type that is written at a name is one of its value. A name
-- that a name behind it is too tells nothing of its type.
use Rattle.std.specs.Prelude.{◌≡◌, ℕ, false, List, [], ◌∷◌, Option, Some, None}
use Rattle.sail_base.specs.declared.place.Place.{Place}
use Rattle.sail_types.specs.declared.numbers.Index.{Index}
use Rattle.sail_types.specs.declared.types.Typ.{Typ}
use Rattle.sail_types.specs.declared.values.Value.{Value}
use Rattle.sail_core.specs.Making.{World}
use Rattle.sail_core.specs.Patterns.{arm_meaning}
use Rattle.sail_core.specs.Run.{Local}
use Rattle.sail_core.specs.declared.patterns.Arm.{Arm}
use Rattle.value_indices.specs.declared.indices.Indices.{Indices}
use Rattle.value_indices.specs.declared.indices.Reading.{Reading}
use Rattle.value_indices.specs.declared.indices.Reading.TheVariants as R
use Rattle.value_indices.specs.declared.notes.Fact.{Fact}
use Rattle.pattern_leaves.specs.Settings.{Scope}
use Rattle.pattern_leaves.specs.declared.names.Bound.{Bound}
use Rattle.pattern_leaves.specs.declared.names.Held.{Held}
use Rattle.pattern_leaves.specs.declared.names.Held.TheVariants as H
use Rattle.pattern_notes.specs.Patterns.{arm_written, looks, one_match}
use Rattle.pattern_notes.specs.declared.matching.Matching.{Matching}
use Rattle.checked_meaning.specs.Checked.{checked}
use Rattle.checked_meaning.specs.Items.{Item}
use Rattle.value_laws.specs.Known.{Point}
use Rattle.pattern_laws.specs.Typing.{is_again}
use Rattle.soundness_steps.specs.Works.{Scene, Setting, Work, here}
use Rattle.soundness_steps.specs.Steps.{Beside}
use Rattle.soundness_steps.specs.Values.{Belongs, Is}
use Rattle.soundness_forms.specs.Patterns.{Binds, Owes}
use Rattle.soundness_forms.specs.Worlds.{Surrounds}

abbrev pub IsValue : Held → Type 0
IsValue (H.Value i) = Unit {0}
IsValue (H.Var r) = ⊥

module _ (set : Setting) (work : Work) (numbers : List Index) {n : ℕ} (f : Point n) where
  -- a type under what the variables of the function stand for
  abbrev pub IsTold : Option Reading → Value → Type 0
  IsTold None v = Unit {0}
  IsTold (Some r) v = (t : Typ) × (r ≡ R.Of t numbers []) × Belongs set work f r v

  abbrev pub AreTold : List Bound → List (Local Item) → Type 0
  AreTold [] [] = Unit {0}
  AreTold (b ∷ bs) (l ∷ ls) = IsValue b.held × (is_again b.name bs ≡ false → IsTold b.written l.held.val) × AreTold bs ls
  AreTold bs ls = ⊥

-- a pattern that tells that of what it binds beside its run
abbrev pub LetTells : Scene → World Item → Arm → Type 0
LetTells q w arm = (n : ℕ) (f : Point n) (facts : List Fact) (scope : Scope) (place : Place) (how : Matching) (i : Indices) (x : Item)
    → Surrounds q w f scope → Is q.set q.work f i x → Owes q f (arm_written arm) how.is_owed x
    → Beside q n f facts (one_match place (looks arm) (here q) how i) (arm_meaning (checked q.set.around.types q.cases) w arm (x ∷ []))
    (λ m g found locals. Binds q.set q.work g found locals × AreTold q.set q.work q.numbers g found locals)
