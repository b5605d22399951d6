use Rattle.std.proofs.Common.{ap}
use Rattle.jib_lower.specs.Reads.{read_here}
use Rattle.jib_lower.proofs.Reading.{one_read}
use Rattle.jib_lower.proofs.reads.push_read.Goals as goal

pub returns-in-Variable : goal.returns-in-Variable
returns-in-Variable c =
    one_read c.push.result c.args.found.now c.push.new.self _ (read_here c.args.node c.args.kind.now) (ap (read_here c.args.node) c.in-Variable.is)
    c.push.ensures.pushed
