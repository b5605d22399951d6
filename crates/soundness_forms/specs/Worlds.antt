-- What is known around an expression: its names, the function's variables, the values of top-level lets, and calls.
use Rattle.std.specs.Prelude.{◌≡◌, ℕ, true, false, List, [], ◌∷◌, Option, Some, None}
use Rattle.sail_types.specs.Belongs.{Reading as Closed, belongs}
use Rattle.sail_types.specs.Places.{Given}
use Rattle.sail_types.specs.declared.numbers.Index.{Index}
use Rattle.sail_types.specs.declared.values.Value.{Value}
use Rattle.sail_core.specs.Making.{World}
use Rattle.value_indices.specs.declared.indices.Reading.{Reading}
use Rattle.value_indices.specs.declared.notes.Fact.{Fact}
use Rattle.pattern_leaves.specs.Settings.{Scope}
use Rattle.pattern_leaves.specs.declared.names.TopLevel.{TopLevel}
use Rattle.pattern_leaves.specs.declared.names.TopLevel.TheVariants as T
use Rattle.call_arguments.specs.Holes.{has_hole}
use Rattle.expression_forms.specs.Names.{type_read}
use Rattle.checked_meaning.specs.Items.{Item}
use Rattle.value_laws.specs.Belonging.{Integers, Meant, standing, meant, closed}
use Rattle.value_laws.specs.Known.{Point, Agree, Goes}
use Rattle.soundness_steps.specs.Works.{Work, Setting, Scene}
use Rattle.soundness_steps.specs.Covers.{given_there}
use Rattle.soundness_steps.specs.Calls.{SoundCalls}
use Rattle.soundness_steps.specs.Values.{InScope}

-- ---- top-level lets: a value of constant indices, or of the type that is read, wherever the name is

abbrev pub LetIs : Setting → Work → TopLevel → Value → Type 0
LetIs set work (T.Known i) v =
    (m : Meant) × (m.holds v ≡ true) × ((g : Integers) → meant set.around.types (standing set.past g) work.types i ≡ m)
LetIs set work (T.Read name r) v = (n : ℕ) (f : Point n) (facts : List Fact) → (t : Closed) × (belongs set.around.types v t ≡ true)
    × Goes set.past n f facts (type_read set.around.types r) (λ g q. closed set.around.types (standing set.past g) work.types q ≡ t)

abbrev pub LetsAre : Setting → Work → List TopLevel → List Value → Type 0
LetsAre set work [] [] = Unit {0}
LetsAre set work (l ∷ ls) (v ∷ vs) = LetIs set work l v × LetsAre set work ls vs
LetsAre set work ls vs = ⊥

module _ (q : Scene) (w : World Item) {n : ℕ} (f : Point n) where
  -- ---- the function's variables, and the type of its result

  abbrev pub AreGiven : List Index → List Given → Type 0
  AreGiven [] [] = Unit {0}
  AreGiven (i ∷ is) (y ∷ ys) = ((g : Integers) → Agree f g → y ≡ given_there q.set.past g i) × AreGiven is ys
  AreGiven is ys = ⊥

  abbrev pub AnswerIs : Option Reading → Option Closed → Type 0
  AnswerIs None None = Unit {0}
  AnswerIs (Some r) (Some t) = ((g : Integers) → Agree f g → closed q.set.around.types (standing q.set.past g) q.work.types r ≡ t) × (has_hole r ≡ false)
  AnswerIs r t = ⊥

  -- ---- all of it

  pub record Surrounds (scope : Scope) : Type 0 where
    pub names : InScope q.set q.work f scope q.names
    pub numbers : AreGiven q.numbers w.numbers
    pub answer : AnswerIs q.result q.answer
    pub lets : LetsAre q.set q.work q.set.around.lets w.lets
    pub hart : w.hart ≡ q.set.hart
    pub calls : SoundCalls q.set q.reached w
