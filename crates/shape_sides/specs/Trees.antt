-- The parts of a side as the definitions see them: each stands where `read_side` has it.
use Rattle.std.specs.Prelude.{List, map}
use Rattle.sail_syntax.specs.declared.patterns.Pat.{Pat}
use Rattle.sail_syntax.specs.declared.patterns.Pat.TheFolds.{fold-Joined}
use Rattle.sail_syntax.specs.declared.patterns.Joined.{Joined}
use Rattle.shape_rules.specs.Calls.{Elaborate}
use Rattle.shape_rules.specs.Targets.{Part, elaborations}
use Rattle.shape_rules.specs.Sides.{FurtherSide, read_side, side_part, further_side}

-- parts, as what is found of each
abbrev pub elaborates : List Pat → List Elaborate
elaborates ps = elaborations (map read_side ps)

-- a further part of a concatenation
abbrev pub further_part : Joined → FurtherSide
further_part = fold-Joined Part FurtherSide side_part further_side
