use Rattle.call_graph.specs.Search.{IsNumbered}
use Rattle.call_graph.proofs.finding.numbers.Goals as goal

pub unreachable-requires : goal.unreachable-requires
unreachable-requires c =
    let number : IsNumbered c.args.marks.now c.loop-mark.mark-index = c.requires c.loop-mark.mark-index c.loop-mark-test.true in
    c.in_default.not-Numbered number.0 number.1
