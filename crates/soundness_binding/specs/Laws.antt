-- Forms of expressions that bind names end well beside their walks.
use Rattle.std.specs.Prelude.{◌≡◌, ℕ, true, List, Option}
use Rattle.sail_core.specs.Making.{World}
use Rattle.sail_core.specs.declared.patterns.Arm.{Arm}
use Rattle.sail_core.specs.declared.tree.Kind.TheVariants as K
use Rattle.sail_core.specs.declared.tree.Statement.{Statement}
use Rattle.sail_core.specs.declared.written.Written.{Written}
use Rattle.checked_meaning.specs.Items.{Item}
use Rattle.pattern_laws.specs.Standing.{arm_stands}
use Rattle.soundness_steps.specs.Works.{Scene}
use Rattle.soundness_forms.specs.EachKind.{KindFine}
use Rattle.soundness_forms.specs.Forms.{FitsSuffice}
use Rattle.soundness_forms.specs.Patterns.{ArmMatches, LetMatches}
use Rattle.soundness_binding.specs.Patterned.{patterns_stand}
use Rattle.soundness_binding.specs.Scenes.{ModelFits}
use Rattle.soundness_binding.specs.Told.{LetTells}

-- `let`, where its pattern stands
abbrev pub LetsAreFine : Type 0
LetsAreFine = (q : Scene) (w : World Item) → ModelFits q.set q.work → (arm : Arm) → patterns_stand q.set.around.types q.numbers (K.Let arm) ≡ true
    → KindFine q w (K.Let arm)

-- `var`
abbrev pub VarsAreFine : Type 0
VarsAreFine = (q : Scene) (w : World Item) (name : List ℕ) (written : Option Written) → KindFine q w (K.Var name written)

-- blocks, where the pattern of each `let` in them does
abbrev pub BlocksAreFine : Type 0
BlocksAreFine = FitsSuffice → (q : Scene) (w : World Item) → ModelFits q.set q.work → (statements : List Statement)
    → patterns_stand q.set.around.types q.numbers (K.Block statements) ≡ true → KindFine q w (K.Block statements)

-- a pattern that stands, of a `let` or of an arm, matches where a piece may say No, and that of a `let` tells of its names
abbrev pub PatternsMatch : Type 0
PatternsMatch = (q : Scene) (w : World Item) → ModelFits q.set q.work → q.may_fall ≡ true → (arm : Arm)
    → arm_stands q.set.around.types q.numbers arm ≡ true → LetMatches q w arm × ArmMatches q w arm × LetTells q w arm
