use Rattle.std.proofs.Common.{◌+◌, ◌*◌, length}
use Rattle.shape_sides.proofs.sides.+joined.Given as goal

-- by how many parts of a concatenation are left; at one count what calls the others stands above them
abbrev pub decreases-joined : goal.decreases-joined
decreases-joined g l = 3 * length l.more.now

abbrev pub decreases-infix_joined : goal.decreases-infix_joined
decreases-infix_joined g l = 3 * length l.more.now + 2

abbrev pub decreases-push_joined : goal.decreases-push_joined
decreases-push_joined g l = 3 * length l.more.now + 1
