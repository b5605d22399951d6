use Rattle.std.proofs.Common.{◌≡◌, ◌+◌, ◌*◌, take, map, replicate}
use Rattle.jib.specs.Values.{zero_within}
use Rattle.jib_values.proofs.typing.+zero.Given as goal

abbrev pub invariant-zeros-loop-at : goal.invariant-zeros-loop-at
invariant-zeros-loop-at l = l.values ≡ replicate l._at (zero_within l.types l.depth l.typ)

abbrev pub invariant-each_zero-loop-typ : goal.invariant-each_zero-loop-typ
invariant-each_zero-loop-typ l = l.values ≡ map (zero_within l.types l.depth) (take l.typ-index l.inside)

-- a depth counts four times, so that the calls between two depths count down too
abbrev pub decreases-zero_within : goal.decreases-zero_within
decreases-zero_within l = 4 * l.depth

abbrev pub decreases-zero_of_form : goal.decreases-zero_of_form
decreases-zero_of_form l = 4 * l.depth + 3

abbrev pub decreases-zeros : goal.decreases-zeros
decreases-zeros l = 4 * l.depth + 1

abbrev pub decreases-each_zero : goal.decreases-each_zero
decreases-each_zero l = 4 * l.depth + 1

abbrev pub decreases-first_zero : goal.decreases-first_zero
decreases-first_zero l = 4 * l.depth + 1
