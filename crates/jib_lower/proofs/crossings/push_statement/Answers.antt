use Rattle.std.proofs.Common.{◌≡◌, ◌∙◌, ◌++◌, ap, sym}
use Rattle.std.proofs.lemmas.Result.{on_ok_weaker}
use Rattle.jib_lower.specs.Crossings.{seen_in, stated_as}
use Rattle.jib_lower.proofs.crossings.push_statement.Goals as goal

pub returns-in-Define : goal.returns-in-Define
returns-in-Define c =
    on_ok_weaker c.push_steps.result
    (λ (e : c.push_steps.new.asked ≡ c.args.asked.now ++ seen_in c.arm_steps.result.now).
    e ∙ ap (λ ss. c.args.asked.now ++ seen_in ss) c.arm_steps.ensures ∙ ap (λ ds. c.args.asked.now ++ ds) (sym (ap stated_as c.in-Define.is)))
    c.push_steps.ensures
