use Rattle.std.proofs.Common.{◌++◌, ap, ◌∙◌}
use Rattle.sail_gen.specs.Model.{case_text}
use Rattle.sail_gen.proofs.Drawn.{numbers-more}
use Rattle.sail_gen.proofs.model.push_cases.Goals as goal

pub loop-number-preserved : goal.loop-number-preserved
loop-number-preserved c =
    let number = c.loop-number.number in
    c.in_ok-push_case.ensures ∙ ap (λ text. text ++ case_text number) c.loop-number.invariant ∙ numbers-more case_text c.args.out.now.items number
