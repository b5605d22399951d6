use Rattle.std.proofs.Common.{rules}
use Rattle.sail_base.specs.laws.BitLaws.{Decides-eq_bits}
use Rattle.sail_types.proofs.small.same_word.Goals as goal

pub returns : goal.returns
returns c = search (rules, Decides-eq_bits)
