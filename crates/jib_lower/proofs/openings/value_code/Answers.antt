use Rattle.jib_lower.specs.Left.{value_not_coded}
use Rattle.jib_lower.proofs.Unmade.{exit_more}
use Rattle.jib_lower.proofs.openings.value_code.Goals as goal

pub put_value-requires : goal.put_value-requires
put_value-requires c = record { lowered = c.requires.able }

pub returns-clause-made : goal.returns-clause-made
returns-clause-made c = record {
  able = c.requires.able;
  right = c.requires.right;
  only = c.requires.only;
  coding = c.in_ok-coding.coding;
  code = c.in_ok-coding.ensures;
  is = c.in_ok-made.ensures.made;
}

pub returns-in_err-made-clause-left : goal.returns-in_err-made-clause-left
returns-in_err-made-clause-left c =
    exit_more _ _ c.from_residual-in_err-made.ensures.1
    (λ none. value_not_coded (record { coding = c.in_ok-coding.coding; made = c.in_ok-coding.ensures; none = none })) c.in_err-made.ensures.left
