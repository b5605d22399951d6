use Rattle.std.proofs.Common.{◌+◌, ◌*◌}
use Rattle.call_arguments.proofs.through.+see.Given as goal

-- a depth counts four times, so that the calls between two depths count down too
abbrev pub decreases-see_within : goal.decreases-see_within
decreases-see_within l = 4 * l.depth

abbrev pub decreases-see_form : goal.decreases-see_form
decreases-see_form l = 4 * l.depth + 3

abbrev pub decreases-see_type : goal.decreases-see_type
decreases-see_type l = 4 * l.depth + 2

abbrev pub decreases-see_variable : goal.decreases-see_variable
decreases-see_variable l = 4 * l.depth + 1
