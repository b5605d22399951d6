use Rattle.std.proofs.Common.{◌∙◌, ◌++◌, ap, sym}
use Rattle.lowered_typed.specs.Judging.{typed}
use Rattle.jib_lower.proofs.openings.gives_only.Goals as goal

pub returns-clause-is : goal.returns-clause-is
returns-clause-is c = λ h. sym (c.as_slice-found.ensures ∙ c.in_ok-put_types.ensures
    ∙ ap (λ ts. ts ++ (typed c.args.judge.now c.args.value.now).types) c.new-types.ensures) ∙ c.is_only-only.ensures.is h

pub returns-clause-no : goal.returns-clause-no
returns-clause-no c = λ h is. c.is_only-only.ensures.no h (c.as_slice-found.ensures ∙ c.in_ok-put_types.ensures
    ∙ ap (λ ts. ts ++ (typed c.args.judge.now c.args.value.now).types) c.new-types.ensures ∙ is)
