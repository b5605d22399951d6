use Rattle.std.proofs.Common.{◌≡◌, ◌++◌, drop, map}
use Rattle.size_notes.specs.Written.{each_sizes, type_sizes}
use Rattle.size_notes.proofs.written.+type_sizes.Given as goal

abbrev pub invariant-push_each_sizes-loop-typ : goal.invariant-push_each_sizes-loop-typ
invariant-push_each_sizes-loop-typ l = l.made ++ each_sizes l.region l.numbers (map type_sizes (drop l.typ-index l.types))
    ≡ l.fn.made ++ each_sizes l.region l.numbers (map type_sizes l.types)
