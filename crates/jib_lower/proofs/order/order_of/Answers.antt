use Rattle.std.proofs.Common.{◌∙◌, ◌++◌, [], ap, length}
use Rattle.std.proofs.lemmas.Result.{IfOk-weaker}
use Rattle.jib_lower.specs.Crossings.{calls_of}
use Rattle.jib_lower.specs.Order.{made_in}
use Rattle.jib_lower.specs.Rounds.{in_rounds}
use Rattle.jib_lower.proofs.Rounded.{rounds_ordered}
use Rattle.jib_lower.proofs.order.order_of.Goals as goal

pub returns : goal.returns
returns c =
    let all = calls_of c.args.core.now.directions in
    let made = c.push_made.new.made in
    IfOk-weaker c.in_rounds.result _ _
    (λ order e. rounds_ordered all (made_in 0 c.args.turned.now) order
    (e ∙ ap (λ xs. in_rounds xs c.len-steps.result c.new.result made) (c.as_slice-lists.ensures ∙ c.in_ok-calls.ensures)
    ∙ ap (λ ds. in_rounds all c.len-steps.result ds made) c.new.ensures ∙ ap (λ n. in_rounds all n [] made) c.len-steps.ensures
    ∙ ap (λ ds. in_rounds all (length ds) [] ds)
    (c.in_ok-push_made.ensures ∙ ap (λ ds. ds ++ made_in 0 c.args.turned.now) c.new-made.ensures)))
    c.in_rounds.ensures
