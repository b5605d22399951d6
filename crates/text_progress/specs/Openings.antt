-- Openings as the grammar has them: a top-level let and an initial value is a plain expression (Sail language manual, "Let bindings", "Registers").
use Rattle.std.specs.Prelude.{◌≡◌, true, List, [], ◌∷◌, Some}
use Rattle.sail_syntax.specs.declared.definitions.Def.{Def}
use Rattle.sail_syntax.specs.declared.definitions.Def.TheVariants as D
use Rattle.sail_syntax.specs.declared.expressions.Exp.{Exp}
use Rattle.shape_stands.specs.Manner.{manner}

abbrev pub IsPlain : Exp → Type 0
IsPlain e = ((manner e).is_plain ≡ true) × ((manner e).is_full ≡ true)

abbrev pub OpeningPlain : Def → Type 0
OpeningPlain (D.Let place p value) = IsPlain value
OpeningPlain (D.Register place name typ (Some value)) = IsPlain value
OpeningPlain d = Unit {0}

abbrev pub OpeningsPlain : List Def → Type 0
OpeningsPlain [] = Unit {0}
OpeningsPlain (d ∷ text) = OpeningPlain d × OpeningsPlain text
