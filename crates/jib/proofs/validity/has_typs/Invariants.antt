use Rattle.std.proofs.Common.{◌≡◌, drop}
use Rattle.jib.specs.Operands.{each}
use Rattle.jib.specs.Valid.{is_typ}
use Rattle.jib.proofs.validity.has_typs.Given as goal

abbrev pub invariant-loop-index : goal.invariant-loop-index
invariant-loop-index l = each (is_typ l.program) 0 l.types ≡ each (is_typ l.program) l.index (drop l.index l.types)
