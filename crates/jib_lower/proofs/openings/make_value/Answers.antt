use Rattle.std.proofs.Common.{◌∙◌, sym}
use Rattle.jib_lower.specs.Left.{value_not_able, value_not_right, value_of_others}
use Rattle.jib_lower.proofs.openings.make_value.Goals as goal

pub value_code-requires : goal.value_code-requires
value_code-requires c = record {
  able = λ name. sym (c.in_ok-able.ensures name) ∙ c.if-able.true;
  right = sym c.in_ok-right.ensures ∙ c.if-right.true;
  only = c.in_ok-only.ensures.is c.if-only.true;
}

pub returns-then-only-clause-made : goal.returns-then-only-clause-made
returns-then-only-clause-made c = c.value_code.ensures.made

pub returns-then-only-clause-left : goal.returns-then-only-clause-left
returns-then-only-clause-left c = c.value_code.ensures.left

pub returns-else-only-clause-left : goal.returns-else-only-clause-left
returns-else-only-clause-left c = value_of_others (c.in_ok-only.ensures.no c.if-only.false)

pub returns-else-right-clause-left : goal.returns-else-right-clause-left
returns-else-right-clause-left c = value_not_right (sym c.in_ok-right.ensures ∙ c.if-right.false)

pub returns-else-able-clause-left : goal.returns-else-able-clause-left
returns-else-able-clause-left c = value_not_able (λ name. sym (c.in_ok-able.ensures name) ∙ c.if-able.false)
