-- What is taken of the patterns of `let`: what one binds beside its run are names of the walk's indices; it may say No.
use Rattle.std.specs.Prelude.{true, List, [], ◌∷◌}
use Rattle.sail_core.specs.Making.{World}
use Rattle.sail_core.specs.declared.patterns.Arm.{Arm}
use Rattle.sail_core.specs.declared.tree.Statement.{Statement}
use Rattle.sail_core.specs.declared.tree.Statement.TheVariants as S
use Rattle.checked_meaning.specs.Items.{Item}
use Rattle.soundness_steps.specs.Works.{Kept, Scene}
use Rattle.soundness_forms.specs.Forms.{at}
use Rattle.soundness_forms.specs.Patterns.{LetMatches}

-- this one, under whatever names
abbrev pub LetsMatch : Scene → World Item → Arm → Type 0
LetsMatch q w arm = (names : List Kept) → LetMatches (at q w names true) w arm

-- each `let` of a block
abbrev pub AllLetsMatch : Scene → World Item → List Statement → Type 0
AllLetsMatch q w [] = Unit {0}
AllLetsMatch q w (S.Evaluate ∷ ss) = AllLetsMatch q w ss
AllLetsMatch q w (S.Define here_at arm ∷ ss) = LetsMatch q w arm × AllLetsMatch q w ss
AllLetsMatch q w (S.Declare name written ∷ ss) = AllLetsMatch q w ss
