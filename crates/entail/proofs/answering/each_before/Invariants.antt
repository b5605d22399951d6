use Rattle.std.proofs.Common.{◌≡◌, ◌++◌, drop}
use Rattle.entail.specs.Levels.{each_before}
use Rattle.entail.proofs.answering.each_before.Given as goal

abbrev pub invariant-loop-last : goal.invariant-loop-last
invariant-loop-last l = l.all ++ each_before l.firsts (drop l.last-index l.lasts) ≡ each_before l.firsts l.lasts
