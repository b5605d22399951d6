use Rattle.std.proofs.Common.{◌≡◌, drop}
use Rattle.jib.specs.Operands.{each}
use Rattle.jib.specs.Valid.{is_quiet}
use Rattle.jib.proofs.purity.each_quiet.Given as goal

abbrev pub invariant-loop-index : goal.invariant-loop-index
invariant-loop-index l = each is_quiet 0 l.sources ≡ each is_quiet l.index (drop l.index l.sources)
