use Rattle.std.proofs.Common.{◌≡◌, [], drop}
use Rattle.size_splits.specs.Alone.{all_given}
use Rattle.size_splits.proofs.alone.all_given.Given as goal

abbrev pub invariant-loop-fact : goal.invariant-loop-fact
invariant-loop-fact l = all_given l.types l.value l.seen (drop l.fact-index l.facts) ≡ all_given l.types l.value [] l.facts
