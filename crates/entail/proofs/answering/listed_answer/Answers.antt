use Rattle.std.proofs.Common.{sym, ap, ◌∙◌, subst, true, inl, [], Ok}
use Rattle.linear.specs.Cases.{alternatives}
use Rattle.farkas.specs.Keeping.{AreFew}
use Rattle.farkas.specs.Verdicts.{IsAnswer}
use Rattle.entail.specs.Levels.{each_before}
use Rattle.entail.proofs.Asking.{asked_past, asked_few, asked_none, few_before}
use Rattle.entail.proofs.answering.listed_answer.Goals as goal

pub returns-then-total-gt-MOST_CASES : goal.returns-then-total-gt-MOST_CASES
returns-then-total-gt-MOST_CASES c = inl (asked_past c.args.variables c.args.firsts.now (alternatives true c.args.choice.now) c.count.result _
    c.count.ensures c.saturating_mul-total.ensures c.if-total-gt-MOST_CASES.true)

pub returns-then-total-eq0 : goal.returns-then-total-eq0
returns-then-total-eq0 c =
    let lasts = alternatives true c.args.choice.now in
    inl (ap Ok c.no_case.ensures
    ∙ asked_few c.args.variables c.args.firsts.now lasts c.count.result _ c.count.ensures c.saturating_mul-total.ensures
    c.if-total-gt-MOST_CASES.false []
    (asked_none c.args.variables c.args.firsts.now lasts c.count.result _ c.count.ensures c.saturating_mul-total.ensures c.if-total-eq0.true))

pub eliminate_starts-requires : goal.eliminate_starts-requires
eliminate_starts-requires c = subst AreFew (sym (c.as_slice-2.ensures ∙ c.in_ok-cases.ensures)) (few_before c.args.firsts.now _ c.requires)

pub returns : goal.returns
returns c =
    subst (IsAnswer c.eliminate_starts.result)
    (asked_few c.args.variables c.args.firsts.now (alternatives true c.args.choice.now) c.count.result _ c.count.ensures
    c.saturating_mul-total.ensures c.if-total-gt-MOST_CASES.false c.as_slice-2.result.now
    (c.as_slice-2.ensures ∙ (c.in_ok-cases.ensures ∙ ap (each_before c.args.firsts.now) (c.as_slice.ensures ∙ c.in_ok-lasts.ensures))))
    c.eliminate_starts.ensures
