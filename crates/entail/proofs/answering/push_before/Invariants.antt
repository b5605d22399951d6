use Rattle.std.proofs.Common.{◌≡◌, ◌++◌, take, map}
use Rattle.std.specs.List.{fold}
use Rattle.farkas.specs.declared.keeping.Starts.{Starts}
use Rattle.farkas.specs.Keeping.{started}
use Rattle.entail.proofs.answering.push_before.Given as goal

abbrev pub invariant-loop-first : goal.invariant-loop-first
invariant-loop-first l = l.all ≡ l.fn.all ++ map (λ (s : Starts). fold started s l.last) (take l.first-index l.firsts)
