use Rattle.std.proofs.Common.{◌<◌, length, arith}
use Rattle.call_graph.specs.declared.search.Mark.TheVariants.{New, Open, Numbered}
use Rattle.call_graph.proofs.Following.{place_within, read_within, more_left, follows_from, follows_new, follows_open, follows_numbered}
use Rattle.call_graph.proofs.Following.{end_mark, one_edge_less, smaller_opened, sound_at}
use Rattle.call_graph.proofs.search.Search.follow.Goals as goal

pub index-node-requires : goal.index-node-requires
index-node-requires c = let h = place_within c.args.place c.requires.sound c.requires.last in omega (arith, h, c.args.self.now.stack.ok)

pub index-at-requires : goal.index-at-requires
index-at-requires c =
    let h : c.index-node.result.now < length c.args.graph.now =
    read_within c.args.place c.index-node.result.now c.requires.sound c.requires.last c.index-node.ensures in
    omega (arith, h, c.requires.sound.counted, c.args.self.now.next.ok)

pub successors-requires : goal.successors-requires
successors-requires c = read_within c.args.place c.index-node.result.now c.requires.sound c.requires.last c.index-node.ensures

pub offset_bounds-successors-at : goal.offset_bounds-successors-at
offset_bounds-successors-at c =
    let h : c.index-at.result.now < length c.successors.result.now =
    more_left c.args.place c.index-node.result.now c.index-at.result.now c.successors.result.now c.requires.sound c.requires.last
    c.index-node.ensures c.index-at.ensures c.requires.left c.successors.ensures.successors in
    omega (arith, h, c.successors.type_inv)

pub bounds-successors-at : goal.bounds-successors-at
bounds-successors-at c =
    more_left c.args.place c.index-node.result.now c.index-at.result.now c.successors.result.now c.requires.sound c.requires.last
    c.index-node.ensures c.index-at.ensures c.requires.left c.successors.ensures.successors

pub overflow_add-at : goal.overflow_add-at
overflow_add-at c =
    let h : c.index-at.result.now < length c.successors.result.now =
    more_left c.args.place c.index-node.result.now c.index-at.result.now c.successors.result.now c.requires.sound c.requires.last
    c.index-node.ensures c.index-at.ensures c.requires.left c.successors.ensures.successors in
    omega (arith, h, c.successors.type_inv)

pub index_mut-requires : goal.index_mut-requires
index_mut-requires c =
    let h : c.index-node.result.now < length c.args.graph.now =
    read_within c.args.place c.index-node.result.now c.requires.sound c.requires.last c.index-node.ensures in
    omega (arith, h, c.requires.sound.counted, c.args.self.now.next.ok)

pub returns-in_ok-open-in-New-clause-sound : goal.returns-in_ok-open-in-New-clause-sound
returns-in_ok-open-in-New-clause-sound c =
    let f = follows_from c.args.place c.index-node.result.now c.index-at.result.now c.successors.result.now c.requires.sound c.requires.last
    c.index-node.ensures c.index-at.ensures c.requires.left c.successors.ensures.successors c.successors.ensures.nodes in
    let e = c.in_ok-open-in-New.ensures in
    sound_at (follows_new f (end_mark c.index.result.now New f c.index.ensures c.in-New.is)) e.marks e.next e.stack e.starts e.path e.count

pub returns-in_ok-open-in-New-clause-smaller : goal.returns-in_ok-open-in-New-clause-smaller
returns-in_ok-open-in-New-clause-smaller c =
    let f = follows_from c.args.place c.index-node.result.now c.index-at.result.now c.successors.result.now c.requires.sound c.requires.last
    c.index-node.ensures c.index-at.ensures c.requires.left c.successors.ensures.successors c.successors.ensures.nodes in
    let e = c.in_ok-open-in-New.ensures in
    smaller_opened _ _ _ _ _ _ _ (one_edge_less f) e.next e.path

pub returns-in-Open-clause-sound : goal.returns-in-Open-clause-sound
returns-in-Open-clause-sound c =
    let f = follows_from c.args.place c.index-node.result.now c.index-at.result.now c.successors.result.now c.requires.sound c.requires.last
    c.index-node.ensures c.index-at.ensures c.requires.left c.successors.ensures.successors c.successors.ensures.nodes in
    follows_open c.cut.new.starts.items c.in-Open.first f (end_mark c.index.result.now (Open c.in-Open.first) f c.index.ensures c.in-Open.is) c.cut.ensures

pub returns-in-Open-clause-smaller : goal.returns-in-Open-clause-smaller
returns-in-Open-clause-smaller c =
    let f = follows_from c.args.place c.index-node.result.now c.index-at.result.now c.successors.result.now c.requires.sound c.requires.last
    c.index-node.ensures c.index-at.ensures c.requires.left c.successors.ensures.successors c.successors.ensures.nodes in
    let less = one_edge_less f in omega (arith, less)

pub returns-in-Numbered-clause-sound : goal.returns-in-Numbered-clause-sound
returns-in-Numbered-clause-sound c =
    let f = follows_from c.args.place c.index-node.result.now c.index-at.result.now c.successors.result.now c.requires.sound c.requires.last
    c.index-node.ensures c.index-at.ensures c.requires.left c.successors.ensures.successors c.successors.ensures.nodes in
    follows_numbered c.in-Numbered.field-0 f (end_mark c.index.result.now (Numbered c.in-Numbered.field-0) f c.index.ensures c.in-Numbered.is)

pub returns-in-Numbered-clause-smaller : goal.returns-in-Numbered-clause-smaller
returns-in-Numbered-clause-smaller c =
    let f = follows_from c.args.place c.index-node.result.now c.index-at.result.now c.successors.result.now c.requires.sound c.requires.last
    c.index-node.ensures c.index-at.ensures c.requires.left c.successors.ensures.successors c.successors.ensures.nodes in
    let less = one_edge_less f in omega (arith, less)
