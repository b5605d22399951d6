use Rattle.std.proofs.Common.{◌≤◌, length, arith}
use Rattle.size_splits.specs.Sizing.{indices_where}
use Rattle.size_splits.proofs.Rounds.{where_stops}
use Rattle.size_splits.proofs.given.indices_where.Goals as goal

pub returns-then-at-indices : goal.returns-then-at-indices
returns-then-at-indices c =
    let bs = c.args.flags.now in
    let is = c.args.indices.now in
    let past : length is ≤ c.loop-at.at = omega arith in
    where_stops bs is c.loop-at.at c.loop-at.made (indices_where bs is) c.loop-at.invariant past
