use Rattle.std.proofs.Common.{◌∙◌, sym}
use Rattle.told_sizes.proofs.Free.{num_at}
use Rattle.told_sizes.proofs.among.size_among.Goals as goal

pub returns : goal.returns
returns c = c.num_among.ensures ∙ sym (num_at c.args.constants.now c.args.number.now)
