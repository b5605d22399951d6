use Rattle.std.proofs.Common.{arith}
use Rattle.std.proofs.lemmas.Grind.{common_steps}
use Rattle.value_fits.proofs.Ends.{as_many, not_as_many}
use Rattle.value_fits.proofs.conditions.indices_fit.Goals as goal

pub returns-then-indices-wanted : goal.returns-then-indices-wanted
returns-then-indices-wanted c =
    let e = as_many c.args.indices.now c.args.wanted.now c.loop-index.index (omega arith) (omega arith) in
    grind (arith, common_steps)

pub returns : goal.returns
returns c =
    let e = not_as_many c.args.indices.now c.args.wanted.now c.loop-index.index (omega arith) c.if-indices-wanted.false in
    grind (arith, common_steps)
