use Rattle.std.proofs.Common.{◌≡◌, ◌∙◌, ◌-◌, [], ap, arith, suc, sym}
use Rattle.std.proofs.lemmas.Result.{IfOk-weaker}
use Rattle.jib_lower.specs.Rounds.{all_left, all_placed, in_rounds}
use Rattle.jib_lower.proofs.Rounding.{rounds_here, rounds_more}
use Rattle.jib_lower.proofs.order.+in_rounds.Goals as goal

pub returns-then-steps-eq0 : goal.returns-then-steps-eq0
returns-then-steps-eq0 t c =
    let none : c.args.steps ≡ 0 = omega arith in
    IfOk-weaker c.join.result _ _ (λ order e. e ∙ ap (λ n. in_rounds c.args.calls.now n c.args.placed c.args.left) (sym none)) c.join.ensures

pub returns-then-count-many : goal.returns-then-count-many
returns-then-count-many t c =
    let more : c.args.steps ≡ suc (c.args.steps - 1) = omega arith in
    IfOk-weaker c.join-then-count-many.result _ _
    (λ order e. e ∙ rounds_here c.args.calls.now c.args.steps (c.args.steps - 1) c.args.placed c.args.left c.place_all.new.placed c.place_all.new.left more
    (c.in_ok-place_all.ensures.placed ∙ ap (all_placed c.args.calls.now c.args.placed) c.as_slice-directions.ensures)
    (c.in_ok-place_all.ensures.left ∙ ap (λ ds. all_left c.args.calls.now c.args.placed ds c.as_slice-directions.result.now) c.new-next.ensures
    ∙ ap (all_left c.args.calls.now c.args.placed []) c.as_slice-directions.ensures)
    (sym c.len-count.ensures ∙ c.if-count-many.true ∙ c.len-many.ensures)) c.join-then-count-many.ensures

pub returns : goal.returns
returns t c =
    let more : c.args.steps ≡ suc (c.args.steps - 1) = omega arith in
    IfOk-weaker c.in_rounds.result _ _
    (λ order e. e ∙ rounds_more c.args.calls.now c.args.steps (c.args.steps - 1) c.args.placed c.args.left c.place_all.new.placed c.place_all.new.left more
    (c.in_ok-place_all.ensures.placed ∙ ap (all_placed c.args.calls.now c.args.placed) c.as_slice-directions.ensures)
    (c.in_ok-place_all.ensures.left ∙ ap (λ ds. all_left c.args.calls.now c.args.placed ds c.as_slice-directions.result.now) c.new-next.ensures
    ∙ ap (all_left c.args.calls.now c.args.placed []) c.as_slice-directions.ensures)
    (λ s. c.if-count-many.false (c.len-count.ensures ∙ s ∙ sym c.len-many.ensures))) c.in_rounds.ensures
