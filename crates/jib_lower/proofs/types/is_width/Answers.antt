use Rattle.std.proofs.Common.{◌≡◌, arith, of_z, subst, to_z, true}
use Rattle.std.proofs.lemmas.Int.{to_z-of_z}
use Rattle.std.specs.Int.{w128}
use Rattle.sail_types.specs.Limits.{is_small}
use Rattle.jib_lower.proofs.Numbering.{small_between}
use Rattle.jib_lower.proofs.types.is_width.Goals as goal

pub returns-then-width-ge0-clause-small : goal.returns-then-width-ge0-clause-small
returns-then-width-ge0-clause-small c =
    λ h.
    subst (λ z. is_small z ≡ true) (to_z-of_z w128 c.args.width c.ranges.width)
    (small_between (to_z w128 (of_z w128 c.args.width)) 128 (omega arith) c.if-width-ge0.true h)
