use Rattle.std.proofs.Common.{◌≡◌, ◌++◌, take, map, List}
use Rattle.linear.specs.declared.row.Row.{Row}
use Rattle.linear.proofs.listing.push_each_behind.Given as goal

abbrev pub invariant-loop-more : goal.invariant-loop-more
invariant-loop-more l = l.all ≡ l.fn.all ++ map (λ (more : List Row). l.first ++ more) (take l.more-index l.rest)
