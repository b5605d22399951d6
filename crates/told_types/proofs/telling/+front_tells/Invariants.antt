use Rattle.std.proofs.Common.{◌+◌, ◌*◌}
use Rattle.told_types.proofs.telling.+front_tells.Given as goal

-- a depth counts twice, so that the call between two depths counts down too
abbrev pub decreases-front_tells : goal.decreases-front_tells
decreases-front_tells l = 2 * l.depth

abbrev pub decreases-front_form : goal.decreases-front_form
decreases-front_form l = 2 * l.depth + 1
