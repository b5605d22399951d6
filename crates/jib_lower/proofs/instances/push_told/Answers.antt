use Rattle.std.proofs.Common.{◌∙◌, ◌∷◌, ◌+◌, ap, drop, map, sym}
use Rattle.lowered_types.specs.Table.{type_in}
use Rattle.lowered_pieces.specs.Nodes.{told_as}
use Rattle.lowered_typed.proofs.Pushed.{none, pushed}
use Rattle.jib_lower.proofs.Gathered.{from_here, past_all}
use Rattle.jib_lower.proofs.instances.push_told.Goals as goal

pub loop-one-init : goal.loop-one-init
loop-one-init c = λ new e. e

pub loop-one-preserved : goal.loop-one-preserved
loop-one-preserved c = λ new e.
    let l = c.loop-one in
    let all = c.args.told.now in
    let behind = map (type_in c.args.numbered.now) (map told_as (drop (l.one-index + 1) all)) in
    l.invariant new (pushed l.numbers c.push.new.self new behind (map (type_in c.args.numbered.now) (map told_as (drop l.one-index all)))
    c.in_ok-number.number c.in_ok-push.ensures.pushed e
    (ap (λ us. map (type_in c.args.numbered.now) (map told_as us))
    (from_here all l.one-index c.one-item.result c.loop-one-test.true c.one-item.is)
    ∙ ap (λ n. n ∷ behind) (sym (c.in_ok-number.ensures ∙ ap (type_in c.args.numbered.now) c.in_ok-typ.ensures))))

pub returns : goal.returns
returns c =
    let l = c.loop-one in
    l.invariant l.numbers (none l.numbers (map (type_in c.args.numbered.now) (map told_as (drop l.one-index c.args.told.now)))
    (ap (λ us. map (type_in c.args.numbered.now) (map told_as us)) (past_all c.args.told.now l.one-index c.loop-one-test.false)))
