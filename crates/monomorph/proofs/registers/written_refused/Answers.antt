use Rattle.std.proofs.Common.{drop, ◌∙◌}
use Rattle.monomorph.proofs.Lasting.{none_written}
use Rattle.monomorph.proofs.registers.written_refused.Goals as goal

pub returns-in-empty : goal.returns-in-empty
returns-in-empty c =
    let l = c.loop-place in
    none_written (drop l.place-index c.args.places.now) l.left.now c.in-empty.len_below ∙ l.invariant
