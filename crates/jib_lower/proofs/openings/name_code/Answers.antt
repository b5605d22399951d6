use Rattle.jib_lower.specs.Left.{name_not_coded}
use Rattle.jib_lower.proofs.Unmade.{exit_more}
use Rattle.jib_lower.proofs.openings.name_code.Goals as goal

pub put_name-requires : goal.put_name-requires
put_name-requires c = record { bare = c.requires.bare }

pub returns-clause-made : goal.returns-clause-made
returns-clause-made c = record {
  nothing = c.requires.nothing;
  given = c.requires.given;
  held = c.requires.held;
  coding = c.in_ok-coding.coding;
  code = c.in_ok-coding.ensures;
  is = c.in_ok-made.ensures.made;
}

pub returns-in_err-made-clause-left : goal.returns-in_err-made-clause-left
returns-in_err-made-clause-left c =
    exit_more _ _ c.from_residual-in_err-made.ensures.1
    (λ none. name_not_coded (record { coding = c.in_ok-coding.coding; made = c.in_ok-coding.ensures; none = none })) c.in_err-made.ensures.left
