use Rattle.std.proofs.Common.{◌∙◌, sym}
use Rattle.jib_lower.specs.Left.{way_not_able, way_not_right, way_of_others}
use Rattle.jib_lower.proofs.directions.make_code.Goals as goal

pub way_code-requires : goal.way_code-requires
way_code-requires c = record {
  able = λ name. sym (c.in_ok-able.ensures name) ∙ c.if-able.true;
  ends = λ name. sym (c.in_ok-ends.ensures name) ∙ c.if-ends.true;
  right = sym c.in_ok-right.ensures ∙ c.if-right.true;
}

pub returns-then-right-clause-made : goal.returns-then-right-clause-made
returns-then-right-clause-made c = c.way_code.ensures.made

pub returns-then-right-clause-left : goal.returns-then-right-clause-left
returns-then-right-clause-left c = c.way_code.ensures.left

pub returns-else-right-clause-left : goal.returns-else-right-clause-left
returns-else-right-clause-left c = way_not_right (sym c.in_ok-right.ensures ∙ c.if-right.false)

pub returns-else-ends-clause-left : goal.returns-else-ends-clause-left
returns-else-ends-clause-left c = way_of_others (λ name. sym (c.in_ok-ends.ensures name) ∙ c.if-ends.false)

pub returns-else-able-clause-left : goal.returns-else-able-clause-left
returns-else-able-clause-left c = way_not_able (λ name. sym (c.in_ok-able.ensures name) ∙ c.if-able.false)
