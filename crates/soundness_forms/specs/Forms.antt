-- What is asked of a part of an expression, and what each form gives: it ends well beside its walk, and comes to what is wanted of it.
use Rattle.std.specs.Prelude.{◌≡◌, ℕ, Bool, true, false, List, [], ◌∷◌}
use Rattle.sail_base.specs.declared.place.Place.{Place}
use Rattle.sail_types.specs.declared.values.Value.{Value}
use Rattle.sail_core.specs.Making.{Making, World}
use Rattle.sail_core.specs.Run.{Run}
use Rattle.value_indices.specs.declared.indices.Indices.{Indices}
use Rattle.value_indices.specs.declared.indices.Reading.{Reading}
use Rattle.value_indices.specs.declared.notes.Fact.{Fact}
use Rattle.value_fits.specs.Fitting.{fits, owe_fit}
use Rattle.pattern_leaves.specs.Settings.{Around, Scope}
use Rattle.call_arguments.specs.declared.aims.Aim.{Aim}
use Rattle.checked_meaning.specs.Checked.{checked}
use Rattle.checked_meaning.specs.Items.{Item}
use Rattle.value_laws.specs.Known.{Point}
use Rattle.expression_steps.specs.Parts.{Part}
use Rattle.soundness_steps.specs.Works.{Kept, Scene, here}
use Rattle.soundness_steps.specs.Steps.{Beside, Walks, Grows}
use Rattle.soundness_steps.specs.Values.{Has, Belongs, IsWanted, AimSteady, Comes, Claims}
use Rattle.soundness_forms.specs.Worlds.{Surrounds}

-- what is owed that a value fits a type suffices for it to belong to the type
abbrev pub FitsSuffice : Type 0
FitsSuffice = (q : Scene) (n : ℕ) (f : Point n) (facts : List Fact) (place : Place) (i : Indices) (r : Reading) (v : Value)
    → Has q.set q.work f i v → IsWanted q.set q.work f r
    → Walks q n f facts (owe_fit place (fits q.set.around.types i r)) (λ m g t. Belongs q.set q.work g r v)

module _ (q : Scene) (w : World Item) where
  -- the scene under these names, in which a piece may say No
  abbrev pub at : List Kept → Bool → Scene
  at names falls = record q { names = names; may_fall = falls }

  -- how nodes make values there
  abbrev pub z : Making Item
  z = checked q.set.around.types q.cases

  -- a part beside its run: whether it is a cast without a type, and whether it is a guard, which may say No
  pub record Fine (cast guard : Bool) (p : Part) (r : Run Item Item) : Type 0 where
    pub walks : (names : List Kept) (falls : Bool) → (guard ≡ true → falls ≡ true) → (n : ℕ) (f : Point n) (facts : List Fact) (scope : Scope) (aim : Aim)
        → Surrounds (at names falls) w f scope → AimSteady q.set q.work f aim
        → Beside (at names falls) n f facts (p.walk (here q) scope aim) r
        (λ m g i x. Comes q.set q.work g cast p.is_nested p.never_ends aim i x)
    -- as a statement
    pub states : (names : List Kept) (falls : Bool) → (guard ≡ true → falls ≡ true) → (n : ℕ) (f : Point n) (facts : List Fact) (scope : Scope)
        → Surrounds (at names falls) w f scope
        → Beside (at names falls) n f facts (p.state (here q) scope) r (λ m g c x. Claims q.set q.work g c × (p.never_ends ≡ false))
    pub grows : (around : Around) (scope : Scope) (aim : Aim) → Grows (p.walk around scope aim)
    pub state_grows : (around : Around) (scope : Scope) → Grows (p.state around scope)

  -- parts that values are made of, in order
  abbrev pub AllFine : List Part → List (Run Item Item) → Type 0
  AllFine [] [] = Unit {0}
  AllFine (p ∷ ps) (r ∷ rs) = Fine false false p r × AllFine ps rs
  AllFine ps rs = ⊥
