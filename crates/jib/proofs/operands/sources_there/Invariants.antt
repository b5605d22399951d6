use Rattle.std.proofs.Common.{◌≡◌, drop}
use Rattle.jib.specs.Operands.{each, is_there}
use Rattle.jib.specs.Typing.{source_typ}
use Rattle.jib.proofs.operands.sources_there.Given as goal

abbrev pub invariant-loop-index : goal.invariant-loop-index
invariant-loop-index l = each (λ k a. is_there (source_typ l.program l.function a)) 0 l.sources
    ≡ each (λ k a. is_there (source_typ l.program l.function a)) l.index (drop l.index l.sources)
