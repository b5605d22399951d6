use Rattle.std.proofs.Common.{◌≡◌, drop, map}
use Rattle.shape_rules.specs.Targets.{any_open}
use Rattle.shape_forms.specs.Openness.{openness_in}
use Rattle.shape_forms.proofs.openness.+leaves_open.Given as goal

abbrev pub invariant-any_open-loop-shape : goal.invariant-any_open-loop-shape
invariant-any_open-loop-shape l = any_open (map openness_in (drop l.shape-index l.shapes)) ≡ any_open (map openness_in l.shapes)
