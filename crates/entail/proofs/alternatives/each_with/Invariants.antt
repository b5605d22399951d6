use Rattle.std.proofs.Common.{◌≡◌, ◌++◌, drop}
use Rattle.entail.specs.Levels.{each_with}
use Rattle.entail.proofs.alternatives.each_with.Given as goal

abbrev pub invariant-loop-first : goal.invariant-loop-first
invariant-loop-first l = l.all ++ each_with (drop l.first-index l.firsts) l.more ≡ each_with l.firsts l.more
