use Rattle.std.proofs.Common.{◌≡◌, ◌∙◌, ◌-◌, ap, arith, suc, sym}
use Rattle.std.proofs.lemmas.Result.{IfOk-weaker}
use Rattle.jib_lower.specs.Crossings.{reached, with_behind}
use Rattle.jib_lower.proofs.Reaching.{reached_here, reached_more}
use Rattle.jib_lower.proofs.crossings.+reach.Goals as goal

pub returns-then-steps-eq0 : goal.returns-then-steps-eq0
returns-then-steps-eq0 t c = let none : c.args.steps ≡ 0 = omega arith in ap (λ n. reached c.args.calls.now n c.args.seen) (sym none)

pub returns-then-many-count : goal.returns-then-many-count
returns-then-many-count t c =
    let more : c.args.steps ≡ suc (c.args.steps - 1) = omega arith in
    reached_here c.args.calls.now c.args.steps (c.args.steps - 1) c.args.seen c.in_ok-next.next more
    (c.in_ok-next.ensures ∙ ap (λ ds. with_behind c.args.calls.now ds ds) c.as_slice.ensures) (sym c.len-many.ensures ∙ c.if-many-count.true ∙ c.len-count.ensures)

pub returns-else-many-count : goal.returns-else-many-count
returns-else-many-count t c =
    let more : c.args.steps ≡ suc (c.args.steps - 1) = omega arith in
    IfOk-weaker c.reach.result _ _
    (λ all e. e ∙ reached_more c.args.calls.now c.args.steps (c.args.steps - 1) c.args.seen c.in_ok-next.next more
    (c.in_ok-next.ensures ∙ ap (λ ds. with_behind c.args.calls.now ds ds) c.as_slice.ensures) (λ s. c.if-many-count.false (c.len-many.ensures ∙ s ∙ sym c.len-count.ensures))) c.reach.ensures
