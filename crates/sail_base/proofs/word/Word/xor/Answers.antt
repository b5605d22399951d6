use Rattle.std.proofs.lemmas.Nat.{xor_lt}
use Rattle.sail_base.proofs.Words.{below_same, xor_of}
use Rattle.sail_base.proofs.word.Word.xor.Goals as goal

pub invariant_of-result : goal.invariant_of-result
invariant_of-result c =
    let within = below_same _ _ _ _ _ _ c.self.view_is c.other.view_is c.requires c.other.invariant.below in
    record { below = xor_lt _ _ _ c.self.invariant.below within; small = c.self.invariant.small }

pub returns : goal.returns
returns c = xor_of _ _ _ _ _ _ c.self.view_is c.other.view_is c.requires
