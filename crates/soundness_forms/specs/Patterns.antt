-- What is taken of patterns: what a pattern binds beside its run are names of the walk's indices.
use Rattle.std.specs.Prelude.{◌≡◌, ℕ, Bool, true, List, [], ◌∷◌, map, Option, Some}
use Rattle.sail_base.specs.declared.place.Place.{Place}
use Rattle.sail_core.specs.Making.{World}
use Rattle.sail_core.specs.Meaning.{held_by}
use Rattle.sail_core.specs.Patterns.{arm_meaning}
use Rattle.sail_core.specs.Run.{Local}
use Rattle.sail_core.specs.declared.patterns.Arm.{Arm}
use Rattle.sail_core.specs.declared.written.Written.{Written}
use Rattle.value_indices.specs.declared.indices.Indices.{Indices}
use Rattle.value_indices.specs.declared.notes.Fact.{Fact}
use Rattle.pattern_leaves.specs.Settings.{Scope, written_in}
use Rattle.pattern_leaves.specs.declared.names.Bound.{Bound}
use Rattle.pattern_notes.specs.Patterns.{arm_match, arm_written, looks, one_match}
use Rattle.pattern_notes.specs.declared.matching.Matching.{Matching}
use Rattle.checked_meaning.specs.Checked.{checked}
use Rattle.call_notes.specs.Noted.{name_indices}
use Rattle.checked_meaning.specs.Items.{Item, vals}
use Rattle.value_laws.specs.Known.{Point}
use Rattle.soundness_steps.specs.Works.{Kept, Scene, Setting, Work, here}
use Rattle.soundness_steps.specs.States.{AllKept}
use Rattle.soundness_steps.specs.Steps.{Beside}
use Rattle.soundness_steps.specs.Values.{AllAre, AllHave, Belongs, InScope, Is}
use Rattle.soundness_forms.specs.Worlds.{Surrounds}

-- names that are bound, as the run keeps them: what each holds is of what the walk has for it
pub record Binds (set : Setting) (work : Work) {n : ℕ} (f : Point n) (found : List Bound) (locals : List (Local Item)) : Type 0 where
  pub names : List Kept
  pub in_scope : InScope set work f found names
  pub kept : AllKept set.around.types names locals
  pub values : AllHave set work f (map name_indices found) (vals (map held_by locals))

-- the patterns of this arm over as many values; a pattern may say No
abbrev pub ArmMatches : Scene → World Item → Arm → Type 0
ArmMatches q w arm = (n : ℕ) (f : Point n) (facts : List Fact) (scope : Scope) (place : Place) (how : Matching) (is : List Indices) (xs : List Item)
    → Surrounds q w f scope → AllAre q.set q.work f is xs
    → Beside q n f facts (arm_match place arm (here q) how is) (arm_meaning (checked q.set.around.types q.cases) w arm xs)
    (λ m g found locals. Binds q.set q.work g found locals)

-- each arm
abbrev pub AllMatch : Scene → World Item → List Arm → Type 0
AllMatch q w [] = Unit {0}
AllMatch q w (arm ∷ arms) = ArmMatches q w arm × AllMatch q w arms

-- where what its type owes is owed already, a value is of the type that is written
abbrev pub Owes : Scene → {n : ℕ} → Point n → Option Written → Bool → Item → Type 0
Owes q f written is_owed x = is_owed ≡ true → (t : Written) → written ≡ Some t → Belongs q.set q.work f (written_in (here q) t) x.val

-- the one pattern of a `let`
abbrev pub LetMatches : Scene → World Item → Arm → Type 0
LetMatches q w arm = (n : ℕ) (f : Point n) (facts : List Fact) (scope : Scope) (place : Place) (how : Matching) (i : Indices) (x : Item)
    → Surrounds q w f scope → Is q.set q.work f i x → Owes q f (arm_written arm) how.is_owed x
    → Beside q n f facts (one_match place (looks arm) (here q) how i) (arm_meaning (checked q.set.around.types q.cases) w arm (x ∷ []))
    (λ m g found locals. Binds q.set q.work g found locals)
