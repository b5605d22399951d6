use Rattle.std.proofs.Common.{◌≡◌, ◌++◌, drop}
use Rattle.std.specs.Prelude.{codes, ◌==◌}
use Rattle.sail_types.specs.Texts.{rest_joined}
use Rattle.obligations.specs.Texts.{values_text, point_text}
use Rattle.obligations.proofs.texts.push_point.Given as goal

abbrev pub invariant-loop-place : goal.invariant-loop-place
invariant-loop-place l =
    l.out.items ++ rest_joined (l.place == 0) (codes ", ") (values_text (drop l.place l.names) (drop l.place l.numerators) l.point.denominator)
    ≡ l.fn.out.items ++ point_text l.names l.point
