use Rattle.std.proofs.Common.{◌≡◌, ◌<◌, length, sym, ◌∙◌, arith}
use Rattle.std.proofs.lemmas.List.{get_or_read}
use Rattle.call_graph.specs.declared.search.Mark.TheVariants.{New}
use Rattle.call_graph.specs.Search.{mark_of}
use Rattle.call_graph.proofs.Following.{sound_at}
use Rattle.call_graph.proofs.Opening.{opened}
use Rattle.call_graph.proofs.Searching.{opens_alone, numbered_at_end}
use Rattle.call_graph.proofs.search.Search.through.Goals as goal

pub finish-requires : goal.finish-requires
finish-requires c =
    let e = c.in_ok-open.ensures in
    let within : c.loop-node.node < length c.args.graph.now = omega (arith, c.node_count-node-end.ensures, c.loop-node-test.true) in
    let inside : c.loop-node.node < length c.loop-node.search.marks.items = omega (arith, within, c.loop-node.invariant.sound.marked) in
    let new : mark_of c.loop-node.search.marks.items c.loop-node.node ≡ New =
    sym (get_or_read c.loop-node.search.marks.items c.loop-node.node c.index.result.now inside c.index.ensures New) ∙ c.in-New.is in
    sound_at (opened (opens_alone c.loop-node.node c.loop-node.invariant.sound c.loop-node.invariant.path within new))
    e.marks e.next e.stack e.starts e.path e.count

pub returns-clause-done : goal.returns-clause-done
returns-clause-done c = λ node less.
    numbered_at_end c.loop-node.invariant.sound c.loop-node.invariant.path node
    (c.loop-node.invariant.seen node (omega (arith, c.node_count-node-end.ensures, c.loop-node-test.false)))
