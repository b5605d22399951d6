use Rattle.std.proofs.Common.{◌≡◌, ◌++◌, drop}
use Rattle.linear.specs.Cases.{together}
use Rattle.linear.proofs.listing.together.Given as goal

abbrev pub invariant-loop-rows : goal.invariant-loop-rows
invariant-loop-rows l = l.all ++ together (drop l.rows-index l.first) l.rest ≡ together l.first l.rest
