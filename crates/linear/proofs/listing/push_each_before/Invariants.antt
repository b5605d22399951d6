use Rattle.std.proofs.Common.{◌≡◌, ◌++◌, take, map, List}
use Rattle.linear.specs.declared.row.Row.{Row}
use Rattle.linear.proofs.listing.push_each_before.Given as goal

abbrev pub invariant-loop-rows : goal.invariant-loop-rows
invariant-loop-rows l = l.cases ≡ l.fn.cases ++ map (λ (rows : List Row). rows ++ l.last) (take l.rows-index l.all)
