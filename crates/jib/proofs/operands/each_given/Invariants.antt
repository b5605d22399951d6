use Rattle.std.proofs.Common.{◌≡◌, drop}
use Rattle.jib.specs.Operands.{each, is_given}
use Rattle.jib.proofs.operands.each_given.Given as goal

abbrev pub invariant-loop-index : goal.invariant-loop-index
invariant-loop-index l = each (is_given l.program l.function l.types) 0 l.sources
    ≡ each (is_given l.program l.function l.types) l.index (drop l.index l.sources)
