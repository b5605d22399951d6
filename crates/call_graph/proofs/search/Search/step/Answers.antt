use Rattle.std.proofs.Common.{◌≡◌, ◌<◌, [], ◌∷◌, ◌++◌, length, refl, sym, arith}
use Rattle.call_graph.proofs.Following.{place_within, stack_within, read_within, sound_at}
use Rattle.call_graph.proofs.Leaving.{some_last, popped_last, starts_nowhere, none_left, some_left, closes_from}
use Rattle.call_graph.proofs.Closing.{closed, closed_none_new}
use Rattle.call_graph.proofs.Moving.{left}
use Rattle.call_graph.proofs.Counting.{count_less}
use Rattle.call_graph.proofs.search.Search.step.Goals as goal

pub index-node-requires : goal.index-node-requires
index-node-requires c = let h = place_within c.args.place c.requires.sound c.requires.last in omega (arith, h, c.args.self.now.stack.ok)

pub index-requires : goal.index-requires
index-requires c =
    let h : c.index-node.result.now < length c.args.graph.now =
    read_within c.args.place c.index-node.result.now c.requires.sound c.requires.last c.index-node.ensures in
    omega (arith, h, c.requires.sound.counted, c.args.self.now.next.ok)

pub successors-requires : goal.successors-requires
successors-requires c = read_within c.args.place c.index-node.result.now c.requires.sound c.requires.last c.index-node.ensures

pub follow-requires-clause-left : goal.follow-requires-clause-left
follow-requires-clause-left c =
    some_left c.args.place c.index-node.result.now c.index.result.now c.successors.result.now c.requires.sound c.requires.last
    c.index-node.ensures c.index.ensures c.successors.ensures.successors c.if-index-successors.true

pub close-requires-clause-count : goal.close-requires-clause-count
close-requires-clause-count c =
    let place = place_within c.args.place c.requires.sound c.requires.last in
    let less = count_less c.args.self.now.marks.items _ c.args.place (c.requires.sound.stacked c.args.place place) in
    omega (arith, less, c.requires.sound.few)

pub close-requires-clause-place : goal.close-requires-clause-place
close-requires-clause-place c = place_within c.args.place c.requires.sound c.requires.last

pub close-requires-clause-nodes : goal.close-requires-clause-nodes
close-requires-clause-nodes c = stack_within c.requires.sound

pub returns-then-starts_at-clause-sound : goal.returns-then-starts_at-clause-sound
returns-then-starts_at-clause-sound c =
    let path : c.args.self.now.path.items ≡ c.pop.new.self.items ++ c.args.place ∷ [] =
    popped_last c.args.self.now.path.items c.pop.new.self.items c.pop.result c.args.place c.requires.last c.pop.ensures.items
    (c.pop.ensures.variant.1 (omega (arith, some_last c.args.self.now.path.items c.args.place c.requires.last, c.args.self.now.path.ok))) in
    let done = none_left c.args.place c.index-node.result.now c.index.result.now c.successors.result.now c.requires.sound c.requires.last
    c.index-node.ensures c.index.ensures c.successors.ensures.successors c.if-index-successors.false in
    let e = c.close.ensures in
    let starts = c.starts_at.ensures.0 c.if-starts_at.true in
    let f = closes_from c.pop.new.self.items starts.0 c.args.place c.requires.sound path starts.1 done e.marks in
    sound_at (closed f) refl e.next e.stack (e.starts starts.0 starts.1) e.path e.count

pub returns-then-starts_at-clause-none_new : goal.returns-then-starts_at-clause-none_new
returns-then-starts_at-clause-none_new c =
    let path : c.args.self.now.path.items ≡ c.pop.new.self.items ++ c.args.place ∷ [] =
    popped_last c.args.self.now.path.items c.pop.new.self.items c.pop.result c.args.place c.requires.last c.pop.ensures.items
    (c.pop.ensures.variant.1 (omega (arith, some_last c.args.self.now.path.items c.args.place c.requires.last, c.args.self.now.path.ok))) in
    let done = none_left c.args.place c.index-node.result.now c.index.result.now c.successors.result.now c.requires.sound c.requires.last
    c.index-node.ensures c.index.ensures c.successors.ensures.successors c.if-index-successors.false in
    let e = c.close.ensures in
    let starts = c.starts_at.ensures.0 c.if-starts_at.true in
    let f = closes_from c.pop.new.self.items starts.0 c.args.place c.requires.sound path starts.1 done e.marks in
    closed_none_new f

pub returns-else-starts_at-clause-sound : goal.returns-else-starts_at-clause-sound
returns-else-starts_at-clause-sound c =
    let path : c.args.self.now.path.items ≡ c.pop.new.self.items ++ c.args.place ∷ [] =
    popped_last c.args.self.now.path.items c.pop.new.self.items c.pop.result c.args.place c.requires.last c.pop.ensures.items
    (c.pop.ensures.variant.1 (omega (arith, some_last c.args.self.now.path.items c.args.place c.requires.last, c.args.self.now.path.ok))) in
    let done = none_left c.args.place c.index-node.result.now c.index.result.now c.successors.result.now c.requires.sound c.requires.last
    c.index-node.ensures c.index.ensures c.successors.ensures.successors c.if-index-successors.false in
    let s = sound_at c.requires.sound refl refl refl refl (sym path) refl in
    left c.args.place s done (starts_nowhere c.pop.new.self.items c.args.place s (λ ends. let yes = c.starts_at.ensures.1 ends in cc))
