use Rattle.std.proofs.Common.{refl}
use Rattle.jib_lower.proofs.functions.make_judged.Goals as goal

pub make_both-requires : goal.make_both-requires
make_both-requires c = record { setting = refl; around = refl }

pub returns-clause-made : goal.returns-clause-made
returns-clause-made c = c.make_both.ensures.made

pub returns-clause-left : goal.returns-clause-left
returns-clause-left c = c.make_both.ensures.left
