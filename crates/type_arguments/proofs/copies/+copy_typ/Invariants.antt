use Rattle.std.proofs.Common.{◌≡◌, drop, ◌++◌}
use Rattle.type_arguments.proofs.copies.+copy_typ.Given as goal

abbrev pub invariant-copy_types-loop-typ : goal.invariant-copy_types-loop-typ
invariant-copy_types-loop-typ l = l.copies ++ drop l.typ-index l.types ≡ l.types
