use Rattle.std.proofs.Common.{◌≡◌, ◌∙◌, ◌&&◌, ◌+◌, Bool, sym, ap, arith, [], drop, length, refl}
use Rattle.lowered_ends.proofs.Masses.{mass_at, mass_opens, masses, masses_drop, one_mass}
use Rattle.lowered_steps.proofs.Lists.{none_of, one_of}
use Rattle.lowered_typed.proofs.More.{block_more, block_past, last_many, not_block}
use Rattle.lowered_typed.proofs.Onward.{ends_here, from_got, from_here, goes_on, mass_got, past_all, past_got, two_first}
use Rattle.lowered_typed.proofs.Parts.{many_here, node_right}
use Rattle.lowered_typed.specs.Counts.{count_fits}
use Rattle.lowered_typed.specs.Judging.{typed}
use Rattle.lowered_validity.specs.Typing.{all_right}
use Rattle.sail_core.specs.declared.tree.Core.{out-Core}
use Rattle.std.proofs.lemmas.Result.{IfOk-weaker}
use Rattle.lowered_typed.specs.Here as here
use Rattle.lowered_typed.specs.Judged as judged
use Rattle.lowered_typed.proofs.nodes.+is_typed.Goals as goal

pub are_typed-loop-node-init : goal.are_typed-loop-node-init
are_typed-loop-node-init t c = refl

pub are_typed-loop-node-preserved : goal.are_typed-loop-node-preserved
are_typed-loop-node-preserved t c =
    let l = c.loop-node in
    let all = c.args.nodes.now in
    goes_on c.in_ok-one.one (typed c.args.judge.now c.node-item.result).right (all_right (judged.all_here c.args.judge.now (drop (l.node-index + 1) all)))
    (all_right (judged.all_here c.args.judge.now all))
    (l.invariant ∙ ap (λ us. all_right (judged.all_here c.args.judge.now us))
    (from_here all l.node-index c.node-item.result c.loop-node-test.true c.node-item.is)) c.in_ok-one.ensures c.if-not-one.false

pub are_typed-returns-then-not-one : goal.are_typed-returns-then-not-one
are_typed-returns-then-not-one t c =
    let l = c.loop-node in
    let all = c.args.nodes.now in
    ends_here c.in_ok-one.one (typed c.args.judge.now c.node-item.result).right (all_right (judged.all_here c.args.judge.now (drop (l.node-index + 1) all)))
    (all_right (judged.all_here c.args.judge.now all))
    (l.invariant ∙ ap (λ us. all_right (judged.all_here c.args.judge.now us))
    (from_here all l.node-index c.node-item.result c.loop-node-test.true c.node-item.is)) c.in_ok-one.ensures c.if-not-one.true

pub are_typed-returns : goal.are_typed-returns
are_typed-returns t c =
    let l = c.loop-node in
    sym (l.invariant ∙ ap (λ us. all_right (judged.all_here c.args.judge.now us)) (past_all c.args.nodes.now l.node-index c.loop-node-test.false))

pub are_typed-is_typed-requires : goal.are_typed-is_typed-requires
are_typed-is_typed-requires t c =
    (omega (arith, mass_at c.args.nodes.now c.loop-node.node-index c.node-item.result c.loop-node-test.true c.node-item.is, c.decreases), tt)

pub is_step_typed-returns : goal.is_step_typed-returns
is_step_typed-returns t c = c.both-all.ensures ∙ (λ i. c.in_ok-begins.ensures i && c.in_ok-one.ensures i)

pub is_step_typed-is_typed-requires : goal.is_step_typed-is_typed-requires
is_step_typed-is_typed-requires t c = (omega (arith, c.decreases), tt)

pub is_last_typed-returns-in-empty : goal.is_last_typed-returns-in-empty
is_last_typed-returns-in-empty t c =
    ap (λ us. here.block_right c.args.judge.now [] (judged.all_here c.args.judge.now us)) (sym (none_of c.args.parts.now c.in-empty.len_below))

pub is_last_typed-returns-in-len1 : goal.is_last_typed-returns-in-len1
is_last_typed-returns-in-len1 t c =
    IfOk-weaker c.is_typed.result _ (λ (a : Bool). a ≡ here.block_right c.args.judge.now [] (judged.all_here c.args.judge.now c.args.parts.now))
    (λ a e. e ∙ ap (λ us. here.block_right c.args.judge.now [] (judged.all_here c.args.judge.now us)) (sym
    (one_of c.args.parts.now c.value-item.result c.in-len1.len_at_least c.in-len1.len_below c.value-item.is))) c.is_typed.ensures

pub is_last_typed-returns-in-len2-up : goal.is_last_typed-returns-in-len2-up
is_last_typed-returns-in-len2-up t c = last_many c.args.judge.now c.args.parts.now c.in-len2-up.len_at_least

pub is_last_typed-is_typed-requires : goal.is_last_typed-is_typed-requires
is_last_typed-is_typed-requires t c = (omega (arith, one_mass _ _ c.in-len1.len_at_least c.value-item.is, c.decreases), tt)

pub is_block_typed-loop-at-init : goal.is_block_typed-loop-at-init
is_block_typed-loop-at-init t c = refl

pub is_block_typed-loop-at-preserved : goal.is_block_typed-loop-at-preserved
is_block_typed-loop-at-preserved t c =
    let l = c.loop-at in
    let judge = c.args.judge.now in
    let statements = c.args.statements.now in
    let parts = c.args.parts.now in
    let statement = c.index-statements-at.result in
    let value = c.in-Some.value.now in
    let behind = here.block_right judge (drop (l.at + 1) statements) (judged.all_here judge (drop (l.at + 1) parts)) in
    goes_on c.in_ok-one-in-Some.one ((typed judge value).right && judged.statement_asked judge statement (typed judge value)) behind
    (here.block_right judge statements (judged.all_here judge parts))
    (l.invariant
    ∙ (λ i. here.block_right judge (from_here statements l.at statement c.loop-at-test.true c.index-statements-at.is i)
    (judged.all_here judge (from_got parts l.at value c.in-Some.ensures.lookup.0 c.in-Some.ensures.lookup.1 i)))
    ∙ sym (block_more judge statement (drop (l.at + 1) statements) (typed judge value) (judged.all_here judge (drop (l.at + 1) parts)))
    ∙ two_first (typed judge value).right (judged.statement_asked judge statement (typed judge value)) behind) c.in_ok-one-in-Some.ensures c.if-not-one.false

pub is_block_typed-returns-then-not-one : goal.is_block_typed-returns-then-not-one
is_block_typed-returns-then-not-one t c =
    let l = c.loop-at in
    let judge = c.args.judge.now in
    let statements = c.args.statements.now in
    let parts = c.args.parts.now in
    let statement = c.index-statements-at.result in
    let value = c.in-Some.value.now in
    let behind = here.block_right judge (drop (l.at + 1) statements) (judged.all_here judge (drop (l.at + 1) parts)) in
    ends_here c.in_ok-one-in-Some.one ((typed judge value).right && judged.statement_asked judge statement (typed judge value)) behind
    (here.block_right judge statements (judged.all_here judge parts))
    (l.invariant
    ∙ (λ i. here.block_right judge (from_here statements l.at statement c.loop-at-test.true c.index-statements-at.is i)
    (judged.all_here judge (from_got parts l.at value c.in-Some.ensures.lookup.0 c.in-Some.ensures.lookup.1 i)))
    ∙ sym (block_more judge statement (drop (l.at + 1) statements) (typed judge value) (judged.all_here judge (drop (l.at + 1) parts)))
    ∙ two_first (typed judge value).right (judged.statement_asked judge statement (typed judge value)) behind) c.in_ok-one-in-Some.ensures c.if-not-one.true

pub is_block_typed-returns-in-None : goal.is_block_typed-returns-in-None
is_block_typed-returns-in-None t c =
    let l = c.loop-at in
    block_past c.args.judge.now c.args.statements.now l.at c.loop-at-test.true
    ∙ sym (l.invariant ∙ ap (λ us. here.block_right c.args.judge.now (drop l.at c.args.statements.now) (judged.all_here c.args.judge.now us))
    (past_got c.args.parts.now l.at c.in-None.ensures.lookup.0))

pub is_block_typed-returns : goal.is_block_typed-returns
is_block_typed-returns t c =
    let l = c.loop-at in
    let judge = c.args.judge.now in
    let all = length c.args.statements.now in
    let same : l.at ≡ all = omega (arith, c.loop-at-test.false, c.loop-at.auto.at-end) in
    IfOk-weaker c.is_last_typed.result _ (λ (a : Bool). a ≡ here.block_right judge c.args.statements.now (judged.all_here judge c.args.parts.now)) (λ a e. e
    ∙ ap (λ us. here.block_right judge [] (judged.all_here judge us)) c.parts_behind.ensures
    ∙ sym (l.invariant ∙ (λ i. here.block_right judge (past_all c.args.statements.now l.at c.loop-at-test.false i)
    (judged.all_here judge (drop (same i) c.args.parts.now))))) c.is_last_typed.ensures

pub is_block_typed-is_last_typed-requires : goal.is_block_typed-is_last_typed-requires
is_block_typed-is_last_typed-requires t c =
    (omega (arith, ap masses c.parts_behind.ensures, masses_drop c.args.parts.now (length c.args.statements.now), c.decreases), tt)

pub is_block_typed-is_step_typed-requires : goal.is_block_typed-is_step_typed-requires
is_block_typed-is_step_typed-requires t c =
    (omega (arith, mass_got c.args.parts.now c.loop-at.at c.in-Some.value.now c.in-Some.ensures.lookup.0 c.in-Some.ensures.lookup.1, c.decreases), tt)

pub are_parts_typed-returns-in-Block : goal.are_parts_typed-returns-in-Block
are_parts_typed-returns-in-Block t c =
    IfOk-weaker c.is_block_typed.result _
    (λ (a : Bool). a ≡ judged.kind_parts c.args.judge.now c.args.kind.now (judged.all_here c.args.judge.now c.args.parts.now)) (λ a e. e
    ∙ ap (λ us. here.block_right c.args.judge.now us (judged.all_here c.args.judge.now c.args.parts.now)) c.as_slice.ensures
    ∙ ap (λ k. judged.kind_parts c.args.judge.now k (judged.all_here c.args.judge.now c.args.parts.now)) (sym c.in-Block.is)) c.is_block_typed.ensures

pub are_parts_typed-is_block_typed-requires : goal.are_parts_typed-is_block_typed-requires
are_parts_typed-is_block_typed-requires t c = (omega (arith, c.decreases), tt)

pub are_parts_typed-returns-in_default : goal.are_parts_typed-returns-in_default
are_parts_typed-returns-in_default t c =
    IfOk-weaker c.are_typed.result _
    (λ (a : Bool). a ≡ judged.kind_parts c.args.judge.now c.args.kind.now (judged.all_here c.args.judge.now c.args.parts.now)) (λ a e. e
    ∙ not_block c.args.judge.now c.args.kind.now (judged.all_here c.args.judge.now c.args.parts.now) c.in_default.not-Block) c.are_typed.ensures

pub are_parts_typed-are_typed-requires : goal.are_parts_typed-are_typed-requires
are_parts_typed-are_typed-requires t c = (omega (arith, c.decreases), tt)

pub is_kind_typed-returns : goal.is_kind_typed-returns
is_kind_typed-returns t c =
    c.both-all.ensures ∙ (λ i. (c.has_count-first.ensures
    ∙ ap (count_fits c.args.kind.now) (sym (many_here c.args.judge.now c.args.parts.now))) i && (c.both-rest.ensures
    ∙ (λ k. c.in_ok-one.ensures k && c.in_ok-other.ensures k)) i)

pub is_kind_typed-are_parts_typed-requires : goal.is_kind_typed-are_parts_typed-requires
is_kind_typed-are_parts_typed-requires t c = (omega (arith, c.decreases), tt)

pub is_typed-returns : goal.is_typed-returns
is_typed-returns t c =
    IfOk-weaker c.is_kind_typed.result _ (λ (a : Bool). a ≡ (typed c.args.judge.now c.args.node.now).right) (λ a e. e
    ∙ ap (λ us. judged.kind_judged c.args.judge.now (out-Core c.args.node.now).kind (out-Core c.args.node.now).number
    (judged.all_here c.args.judge.now us)) c.as_slice.ensures ∙ sym (node_right c.args.judge.now c.args.node.now)) c.is_kind_typed.ensures

pub is_typed-is_kind_typed-requires : goal.is_typed-is_kind_typed-requires
is_typed-is_kind_typed-requires t c = (omega (arith, mass_opens c.args.node.now _ c.as_slice.ensures, c.decreases), tt)
