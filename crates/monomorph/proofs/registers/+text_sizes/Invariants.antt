use Rattle.std.proofs.Common.{◌≡◌, ◌++◌, drop, map}
use Rattle.monomorph.specs.Lasts.{each_text, text_sizes}
use Rattle.monomorph.proofs.registers.+text_sizes.Given as goal

abbrev pub invariant-push_each_text-loop-typ : goal.invariant-push_each_text-loop-typ
invariant-push_each_text-loop-typ l = l.made ++ each_text (map text_sizes (drop l.typ-index l.types)) l.constants
    ≡ l.fn.made ++ each_text (map text_sizes l.types) l.constants
