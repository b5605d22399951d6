use Rattle.std.proofs.Common.{◌≡◌, ◌++◌, take, map, List}
use Rattle.std.specs.List.{fold}
use Rattle.linear.specs.declared.row.Row.{Row}
use Rattle.farkas.specs.Keeping.{started}
use Rattle.entail.proofs.alternatives.push_with.Given as goal

abbrev pub invariant-loop-rows : goal.invariant-loop-rows
invariant-loop-rows l = l.all ≡ l.fn.all ++ map (λ (rows : List Row). fold started l.first rows) (take l.rows-index l.more)
