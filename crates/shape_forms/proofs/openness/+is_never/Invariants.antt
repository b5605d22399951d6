use Rattle.std.proofs.Common.{◌≡◌, drop, map}
use Rattle.shape_rules.specs.Targets.{any_never}
use Rattle.shape_forms.specs.Openness.{openness_in}
use Rattle.shape_forms.proofs.openness.+is_never.Given as goal

abbrev pub invariant-any_never-loop-shape : goal.invariant-any_never-loop-shape
invariant-any_never-loop-shape l = any_never (map openness_in (drop l.shape-index l.shapes)) ≡ any_never (map openness_in l.shapes)
