use Rattle.std.proofs.Common.{◌∙◌, ◌&&◌, Some, ap}
use Rattle.lowered_typed.specs.Asked.{asked}
use Rattle.lowered_typed.specs.Judging.{cases_typed, signs_here}
use Rattle.lowered_typed.specs.declared.cases.Asked.TheVariants as A
use Rattle.lowered_typed.specs.Here as here
use Rattle.lowered_typed.proofs.kinds.is_caught.Goals as goal

pub returns : goal.returns
returns c =
    let j = c.args.judge.now in
    c.both-all.ensures ∙ (λ i. (c.in_ok-one.ensures
    ∙ ap (λ xs. cases_typed j (asked j (A.Sourced (Some (signs_here j).exception))) xs) c.cases.ensures) i && (c.in_ok-other.ensures
    ∙ ap (here.all_thrown j) c.in_ok-ends.ensures) i)
