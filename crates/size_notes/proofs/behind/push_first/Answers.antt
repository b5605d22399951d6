use Rattle.std.proofs.Common.{arith}
use Rattle.size_notes.proofs.Nodes.{first_behind, none_behind}
use Rattle.size_notes.proofs.behind.push_first.Goals as goal

pub returns-in-empty : goal.returns-in-empty
returns-in-empty c = none_behind c.args.numbers.now c.args.parts.now c.args.made.now c.args.sizes (omega (arith, c.in-empty.len_below))

pub returns-in-len1-up : goal.returns-in-len1-up
returns-in-len1-up c =
    first_behind c.push_behind.result c.args.numbers.now c.part-item.result c.args.parts.now c.args.made.now c.push_behind.new.made c.args.sizes
    (omega (arith, c.in-len1-up.len_at_least)) c.part-item.is c.push_behind.ensures
