-- In what is found of expressions casts and guards stand right; where its kinds stand by themselves, it stands so in all.
use Rattle.std.specs.Prelude.{◌≡◌, true}
use Rattle.sail_syntax.specs.declared.expressions.Exp.{Exp}
use Rattle.sail_core.specs.declared.tree.Core.{Core}
use Rattle.pattern_leaves.specs.Settings.{Around}
use Rattle.shape_rules.specs.Expressions.{elaborate}
use Rattle.sail_kinds.specs.Scopes.{Within}
use Rattle.soundness_forms.specs.Standing.{standing}
use Rattle.standing_cores.specs.Places.{StandsRight, kinds_stand, places}
use Rattle.standing_cores.specs.Types.{types_read}

-- where each type in it reads, whatever is wanted of it
abbrev pub FoundCoresStand : Type 0
FoundCoresStand = (within : Within) (e : Exp) → types_read within e ≡ true → StandsRight within (elaborate e)

abbrev pub StandingIs : Type 0
StandingIs = (around : Around) (c : Core) → kinds_stand around c ≡ true → standing around c ≡ places c
