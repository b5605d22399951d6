use Rattle.std.proofs.Common.{arith, ◌∙◌, sym}
use Rattle.match_rewrite.proofs.StepsBehind as B
use Rattle.match_rewrite.proofs.arms.+push_pattern.Goals as goal

pub push_form-returns-then-is_empty : goal.push_form-returns-then-is_empty
push_form-returns-then-is_empty t c =
    B.any_pushed c.args.form c.args.parts c.args.at c.args.next c.args.steps.now c.in-Any.is
    (B.empty_is c.args.parts _ _ c.is_empty.ensures.count c.if-is_empty.true)

pub push_form-returns-then-len-eq1 : goal.push_form-returns-then-len-eq1
push_form-returns-then-len-eq1 t c = B.on_ok c.push_patterns.result c.push_patterns.ensures (λ after h.
    B.typed_pushed c.args.form _ c.args.parts c.args.at c.args.next after c.args.steps.now c.push_patterns.new.steps c.in-Typed.is
    (sym c.len.ensures ∙ c.if-len-eq1.true) h)

pub push_as-returns-in_ok-push : goal.push_as-returns-in_ok-push
push_as-returns-in_ok-push t c =
    B.as_pushed c.args.name c.args.parts c.args.at c.args.next c.in_ok-after.after c.args.steps.now _ _
    (sym c.len.ensures ∙ c.if-len-eq1.true) c.in_ok-after.ensures c.in_ok-push.ensures.pushed

pub push_as-returns-else-len-eq1 : goal.push_as-returns-else-len-eq1
push_as-returns-else-len-eq1 t c = B.on_ok c.push_never.result c.push_never.ensures (λ after h.
    B.as_never c.args.name c.args.parts c.args.at c.args.next after c.args.steps.now c.push_never.new.steps
    (λ e. c.if-len-eq1.false (c.len.ensures ∙ e)) h)

pub push_opened-returns : goal.push_opened-returns
push_opened-returns t c = B.on_ok c.push_patterns.result c.push_patterns.ensures (λ after h.
    B.opens_pushed c.args.head c.args.parts c.args.at c.args.next c.in_ok-count.count c.in_ok-free.free after c.args.steps.now _
    c.push_patterns.new.steps (c.in_ok-count.ensures ∙ c.len.ensures) c.in_ok-free.ensures c.in_ok-push.ensures.pushed h)

pub push_seen-returns-in_ok-free : goal.push_seen-returns-in_ok-free
push_seen-returns-in_ok-free t c = B.on_ok c.push_patterns.result c.push_patterns.ensures (λ after h.
    B.sees_pushed c.args.direction c.args.parts c.args.at c.args.next c.in_ok-free.free after c.args.steps.now _ c.push_patterns.new.steps
    (sym c.len.ensures ∙ c.if-len-eq1.true) c.in_ok-free.ensures c.in_ok-push.ensures.pushed h)

pub push_seen-returns-else-len-eq1 : goal.push_seen-returns-else-len-eq1
push_seen-returns-else-len-eq1 t c = B.on_ok c.push_never.result c.push_never.ensures (λ after h.
    B.sees_never c.args.direction c.args.parts c.args.at c.args.next after c.args.steps.now c.push_never.new.steps
    (λ e. c.if-len-eq1.false (c.len.ensures ∙ e)) h)

pub push_patterns-loop-pattern-init : goal.push_patterns-loop-pattern-init
push_patterns-loop-pattern-init t c = record {
  here = omega arith;
  steps = B.nothing_more c.args.steps.now c.args.next;
}

pub push_patterns-loop-pattern-preserved : goal.push_patterns-loop-pattern-preserved
push_patterns-loop-pattern-preserved t c =
    let l = c.loop-pattern in record {
      here = B.here_more l.yielded c.in-Some.pattern c.args.at l.here _ l.invariant.here c.in_ok-here.ensures;
      steps = B.one_more l.yielded c.in-Some.pattern c.args.at c.args.next l.here l.free _ c.args.steps.now l.steps c.push_pattern.new.steps
          l.invariant.here l.invariant.steps c.in_ok-free.ensures;
    }
