-- `sizeof` and `constraint` end well beside their walks, over variables of the function's own.
use Rattle.std.specs.Prelude.{◌≡◌, true, List}
use Rattle.sail_types.specs.declared.numbers.Con.{Con}
use Rattle.sail_types.specs.declared.numbers.Num.{Num}
use Rattle.sail_core.specs.Making.{World}
use Rattle.sail_core.specs.declared.tree.Kind.TheVariants as K
use Rattle.sail_core.specs.declared.written.WrittenNumber.{WrittenNumber}
use Rattle.checked_meaning.specs.Items.{Item}
use Rattle.soundness_steps.specs.Works.{Scene}
use Rattle.soundness_forms.specs.EachKind.{KindFine}
use Rattle.soundness_forms.specs.Forms.{FitsSuffice}
use Rattle.soundness_sizes.specs.Own.{con_own, number_own}

abbrev pub SizesAreFine : Type 0
SizesAreFine = FitsSuffice → (q : Scene) (w : World Item) (t : Num) (ns : List WrittenNumber) → number_own q.numbers t ≡ true
    → KindFine q w (K.SizeOf t ns)

abbrev pub ConstraintsAreFine : Type 0
ConstraintsAreFine = FitsSuffice → (q : Scene) (w : World Item) (c : Con) (ns : List WrittenNumber) → con_own q.numbers c ≡ true
    → KindFine q w (K.Constraint c ns)
