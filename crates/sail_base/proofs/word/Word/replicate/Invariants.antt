use Rattle.std.proofs.Common.{◌≡◌}
use Rattle.sail_base.specs.Bits.{copies}
use Rattle.sail_base.proofs.word.Word.replicate.Given as goal

abbrev pub invariant-loop : goal.invariant-loop
invariant-loop l = l.out ≡ copies l.counter l.self
