use Rattle.std.proofs.Common.{◌≡◌, drop}
use Rattle.expression_forms.specs.Spots.{any_hole}
use Rattle.expression_forms.proofs.spots.any_hole.Given as goal

-- the rest decides
abbrev pub invariant-loop-typ : goal.invariant-loop-typ
invariant-loop-typ l = any_hole (drop l.typ-index l.types) ≡ any_hole l.types
