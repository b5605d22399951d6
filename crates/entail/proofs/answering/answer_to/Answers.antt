use Rattle.std.proofs.Common.{sym, ap, ◌∙◌, ◌*◌, inl}
use Rattle.linear.specs.Cases.{capped}
use Rattle.linear.proofs.Counts.{capped_is}
use Rattle.entail.specs.Levels.{many_answer, answer_to}
use Rattle.entail.proofs.answering.answer_to.Goals as goal

pub returns-in-TooMany : goal.returns-in-TooMany
returns-in-TooMany c =
    inl (c.many_answer.ensures
    ∙ (ap many_answer (c.saturating_mul.ensures ∙ (sym (capped_is (c.in-TooMany.total * c.count.result)) ∙ ap (λ k. capped (c.in-TooMany.total * k))
    c.count.ensures))
    ∙ sym (λ j. answer_to c.args.variables (c.in-TooMany.is j) (c.in-Some.is j))))
