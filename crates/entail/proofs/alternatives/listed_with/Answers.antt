use Rattle.std.proofs.Common.{ap, ◌∙◌, false}
use Rattle.linear.specs.Cases.{alternatives}
use Rattle.entail.specs.Levels.{each_with}
use Rattle.entail.proofs.Growing.{listed_past, listed_all, listed_none}
use Rattle.entail.proofs.alternatives.listed_with.Goals as goal

pub returns-then-total-gt-MOST_CASES : goal.returns-then-total-gt-MOST_CASES
returns-then-total-gt-MOST_CASES c = listed_past c.args.firsts.now (alternatives false c.args.choice.now) c.count.result _ c.count.ensures
    c.saturating_mul-total.ensures c.if-total-gt-MOST_CASES.true

pub returns-then-total-eq0 : goal.returns-then-total-eq0
returns-then-total-eq0 c =
    let more = alternatives false c.args.choice.now in
    listed_all c.args.firsts.now more c.count.result _ c.count.ensures c.saturating_mul-total.ensures c.if-total-gt-MOST_CASES.false c.new.result
    (c.new.ensures ∙ listed_none c.args.firsts.now more c.count.result _ c.count.ensures c.saturating_mul-total.ensures c.if-total-eq0.true)

pub returns : goal.returns
returns c =
    listed_all c.args.firsts.now (alternatives false c.args.choice.now) c.count.result _ c.count.ensures c.saturating_mul-total.ensures
    c.if-total-gt-MOST_CASES.false c.in_ok-all.all
    (c.in_ok-all.ensures ∙ ap (each_with c.args.firsts.now) (c.as_slice.ensures ∙ c.in_ok-more.ensures))
