-- How ways are joined: what holds of the value of the way that runs, until the node makes it anew behind all of them.
use Rattle.std.specs.Prelude.{◌≡◌, ◌≤◌, ℕ, Bool, true, false, List, [], ◌∷◌, Option, is_none}
use Rattle.sail_base.specs.declared.place.Place.{Place}
use Rattle.sail_types.specs.declared.shapes.Shape.{Shape}
use Rattle.sail_types.specs.declared.table.Types.{Types}
use Rattle.sail_core.specs.Making.{nothing}
use Rattle.sail_core.specs.Run.{Run}
use Rattle.sail_core.specs.declared.patterns.Arm.{Arm}
use Rattle.value_indices.specs.declared.indices.Indices.{Indices}
use Rattle.value_indices.specs.declared.notes.Fact.{Fact}
use Rattle.wide_types.specs.Widening.{met}
use Rattle.pattern_leaves.specs.Settings.{Around}
use Rattle.pattern_notes.specs.Patterns.{arm_match}
use Rattle.call_arguments.specs.Aims.{branch_aim, wanted}
use Rattle.call_arguments.specs.declared.aims.Aim.{Aim}
use Rattle.call_arguments.specs.declared.aims.Aim.TheVariants as Aims
use Rattle.expression_steps.specs.Statements.{Way, each_way, met_made, way_behind}
use Rattle.checked_meaning.specs.Checked.{checked}
use Rattle.checked_meaning.specs.Items.{Item}
use Rattle.value_laws.specs.Known.{Point}
use Rattle.soundness_steps.specs.Works.{Scene, here}
use Rattle.soundness_steps.specs.Steps.{Beside, Grows}
use Rattle.soundness_steps.specs.Values.{AimSteady, Comes, Is, IsMet}

abbrev pub AllGrow : List Way → Type 0
AllGrow [] = Unit {0}
AllGrow (w ∷ ws) = Grows w.walk × AllGrow ws

-- ways of this shape whose variables are counted from m on, of which this is wanted
pub record Joining (q : Scene) (m : ℕ) (shape : Shape) (aim : Aim) : Type 1 where
  pub grows : (w : Way) (first : Option Indices) → Grows w.walk → Grows (way_behind (here q) (is_none (wanted aim)) m shape w first)
  pub Met : (j : ℕ) → Point j → Option Indices → Item → Type 0
  -- the way that runs, with ways behind it that don't; `first` is that before it of which later ones owe
  pub taken : (falls nested : Bool) (w : Way) (after : List Way) (c : Run Item Item) (first : Option Indices) (n : ℕ) (f : Point n) (facts : List Fact)
      → m ≤ n → AllGrow after
      → Beside (record q { may_fall = falls }) n f facts w.walk c (λ j g i x. Comes q.set q.work g true nested w.never_ends (branch_aim aim) i x)
      → Beside (record q { may_fall = falls }) n f facts (each_way (here q) (is_none (wanted aim)) m shape (w ∷ after) first)
      ((checked q.set.around.types q.cases).inside c)
      (λ j g o x. Met j g o x × (w.never_ends ≡ false))
  -- behind all of them the node makes its value anew
  pub made : (place : Place) (k : ℕ) (o : Option Indices) (x : Item) (n : ℕ) (f : Point n) (facts : List Fact) → m ≤ n
      → AimSteady q.set q.work f aim → Met n f o x
      → Beside q n f facts (met_made (here q) place k shape (wanted aim) m o)
      ((checked q.set.around.types q.cases).make k (nothing (checked q.set.around.types q.cases) ∷ []) x.val)
      (λ j g i y. Is q.set q.work g i y × IsMet q.set q.work g aim true y.val)

-- of which no type is wanted: the value has what is kept of the first
abbrev pub FreeJoining : Type 1
FreeJoining = (q : Scene) (m : ℕ) (shape : Shape) → Joining q m shape Aims.Free

-- what is kept of a first way counts variables on, and leaves what is in force; and so do walks of arms, whatever is around
abbrev pub MetGrows : Type 0
MetGrows = (types : Types) (m : ℕ) (shape : Shape) (i : Indices) → Grows (met types m shape i)

abbrev pub AllArmsGrow : Type 0
AllArmsGrow = (around : Around) (place : Place) (arm : Arm) (i : Indices)
    → Grows (arm_match place arm around (record { in_case = true; is_owed = false }) (i ∷ []))
