-- Where ways meet and where pieces run again and again: what is to be shown of these kinds of nodes.
use Rattle.std.specs.Prelude.{ℕ, true, List}
use Rattle.sail_types.specs.declared.shapes.Shape.{Shape}
use Rattle.sail_core.specs.Making.{World}
use Rattle.sail_core.specs.declared.patterns.Arm.{Arm}
use Rattle.sail_core.specs.declared.tree.Counting.{Counting}
use Rattle.sail_core.specs.declared.tree.Kind.TheVariants as K
use Rattle.checked_meaning.specs.Items.{Item}
use Rattle.soundness_steps.specs.Works.{Kept, Scene}
use Rattle.soundness_forms.specs.EachKind.{KindFine}
use Rattle.soundness_forms.specs.Forms.{FitsSuffice, at}
use Rattle.soundness_forms.specs.Joins.{AllArmsGrow, MetGrows}
use Rattle.soundness_forms.specs.Patterns.{AllMatch}

-- operators on truths: the right one under what the left one says, where it is evaluated
abbrev pub TruthsAreFine : Type 0
TruthsAreFine = FitsSuffice → (q : Scene) (w : World Item) → KindFine q w K.And × KindFine q w K.Or

-- a turn's variable is between the bounds, and there are no more turns than ticks
abbrev pub CountingIsFine : Type 0
CountingIsFine = FitsSuffice → (q : Scene) (w : World Item) (name : List ℕ) (way : Counting) → KindFine q w (K.Foreach name way)

-- a measure that has to fall, a condition, and no more turns than ticks
abbrev pub LoopsAreFine : Type 0
LoopsAreFine = FitsSuffice → (q : Scene) (w : World Item) → KindFine q w K.While × KindFine q w K.Repeat

-- ways that meet: the way that was taken gives what is kept of all; of a `match` and a `try` where the patterns of their arms match
abbrev pub JoinsAreFine : Type 0
JoinsAreFine = FitsSuffice → MetGrows → AllArmsGrow → (q : Scene) (w : World Item) (shape : Shape) → KindFine q w (K.If shape)
    × ((arms : List Arm) → ((names : List Kept) → AllMatch (at q w names true) w arms) → KindFine q w (K.Match arms shape) × KindFine q w (K.Try arms shape))
