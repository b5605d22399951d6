use Rattle.std.proofs.Common.{◌∙◌, ◌∷◌, ◌+◌, ℕ, List, Option, ap, drop, sym}
use Rattle.lowered_typed.proofs.Pushed.{none, pushed}
use Rattle.jib_lower.specs.Crossings.{turned_as, turned_from}
use Rattle.jib_lower.proofs.Gathered.{from_here, past_all}
use Rattle.jib_lower.proofs.turned.push_turned.Goals as goal

pub loop-asked-init : goal.loop-asked-init
loop-asked-init c = λ new e. e

pub loop-asked-preserved : goal.loop-asked-preserved
loop-asked-preserved c = λ new e.
    let l = c.loop-asked in
    let all = c.args.calls.now in
    let from : ℕ → List (List ℕ) → List (Option ℕ) =
    turned_from c.args.numbers.now c.args.sized.now.instances c.args.sized.now.mappings c.args.crossings.now.calls c.args.crossings.now.wanted in
    let one_as : List ℕ → Option ℕ =
    turned_as c.args.numbers.now c.args.sized.now.instances c.args.sized.now.mappings c.args.crossings.now.calls c.args.crossings.now.wanted l.place in
    let behind = drop (l.asked-index + 1) all in
    l.invariant new (pushed l.turned c.push.new.self new (from c.in_ok-place.place behind) (from l.place (drop l.asked-index all)) c.in_ok-one.one
    c.in_ok-push.ensures.pushed e
    (ap (from l.place) (from_here all l.asked-index c.asked-item.result c.loop-asked-test.true c.asked-item.is)
    ∙ ap (λ x. x ∷ from (l.place + 1) behind) (sym (c.in_ok-one.ensures ∙ ap one_as c.as_slice-listed.ensures))
    ∙ ap (λ n. c.in_ok-one.one ∷ from n behind) (sym c.in_ok-place.ensures)))

pub returns : goal.returns
returns c =
    let l = c.loop-asked in
    let from : List (List ℕ) → List (Option ℕ) =
    turned_from c.args.numbers.now c.args.sized.now.instances c.args.sized.now.mappings c.args.crossings.now.calls c.args.crossings.now.wanted l.place in
    l.invariant l.turned (none l.turned (from (drop l.asked-index c.args.calls.now))
    (ap from (past_all c.args.calls.now l.asked-index c.loop-asked-test.false)))
