use Rattle.std.proofs.Common.{◌≡◌, drop}
use Rattle.jib.specs.Operands.{each, is_taken}
use Rattle.jib.proofs.operands.each_taken.Given as goal

abbrev pub invariant-loop-index : goal.invariant-loop-index
invariant-loop-index l = each (is_taken l.program l.function l.sorts) 0 l.sources
    ≡ each (is_taken l.program l.function l.sorts) l.index (drop l.index l.sources)
