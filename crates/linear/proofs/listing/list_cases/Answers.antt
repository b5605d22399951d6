use Rattle.std.proofs.Common.{sym, ap, ◌∙◌, arith, ◌≤◌, ◌≡◌}
use Rattle.linear.specs.Cases.{behind}
use Rattle.linear.proofs.Counts.{total_is, past_cases, few_cases, empty_list}
use Rattle.linear.proofs.listing.list_cases.Goals as goal

pub returns-then-total-gt-MOST_CASES : goal.returns-then-total-gt-MOST_CASES
returns-then-total-gt-MOST_CASES c = past_cases _ _ (total_is c.args.facts.now c.args.goal.now _ _ _ c.count_all.ensures c.count.ensures
    c.saturating_mul-total.ensures) c.if-total-gt-MOST_CASES.true

pub returns-then-total-eq0 : goal.returns-then-total-eq0
returns-then-total-eq0 c =
    let total = total_is c.args.facts.now c.args.goal.now _ _ _ c.count_all.ensures c.count.ensures c.saturating_mul-total.ensures in
    few_cases _ _ _ total c.if-total-gt-MOST_CASES.false (c.new.ensures ∙ empty_list _ (sym c.if-total-eq0.true ∙ total))

pub returns : goal.returns
returns c =
    few_cases _ _ _ (total_is c.args.facts.now c.args.goal.now _ _ _ c.count_all.ensures c.count.ensures c.saturating_mul-total.ensures)
    c.if-total-gt-MOST_CASES.false
    (c.in_ok-put_behind.ensures ∙ (λ j. behind ((c.as_slice.ensures ∙ c.in_ok-all.ensures) j) ((c.as_slice-2.ensures ∙ c.in_ok-lasts.ensures) j)))
