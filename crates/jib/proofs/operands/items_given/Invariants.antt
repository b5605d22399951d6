use Rattle.std.proofs.Common.{◌≡◌, drop}
use Rattle.std.specs.Prelude.{Some}
use Rattle.jib.specs.Operands.{each}
use Rattle.jib.specs.Typing.{same, source_typ}
use Rattle.jib.proofs.operands.items_given.Given as goal

abbrev pub invariant-loop-index : goal.invariant-loop-index
invariant-loop-index l = each (λ k a. same (source_typ l.program l.function a) (Some l.typ)) 0 l.sources
    ≡ each (λ k a. same (source_typ l.program l.function a) (Some l.typ)) l.index (drop l.index l.sources)
