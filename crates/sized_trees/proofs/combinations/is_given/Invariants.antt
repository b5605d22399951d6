use Rattle.std.proofs.Common.{◌≡◌, drop}
use Rattle.std.specs.List.{list_any}
use Rattle.sized_trees.specs.Combinations.{gives_it}
use Rattle.sized_trees.proofs.combinations.is_given.Given as goal

-- the rest decides
abbrev pub invariant-loop-fact : goal.invariant-loop-fact
invariant-loop-fact l = list_any (gives_it l.variable) (drop l.fact-index l.facts) ≡ list_any (gives_it l.variable) l.facts
