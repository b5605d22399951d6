use Rattle.std.proofs.lemmas.Result.{IfOk-weaker}
use Rattle.jib_lower.specs.Left.{way_not_coded}
use Rattle.jib_lower.proofs.Unmade.{last_more}
use Rattle.jib_lower.proofs.directions.way_code.Goals as goal

pub put_mapping-requires : goal.put_mapping-requires
put_mapping-requires c = record { lowered = c.requires.able }

pub returns-clause-made : goal.returns-clause-made
returns-clause-made c =
    IfOk-weaker c.with_code.result _ _ (λ made h. record {
      able = c.requires.able;
      ends = c.requires.ends;
      right = c.requires.right;
      coding = c.in_ok-coding.coding;
      code = c.in_ok-coding.ensures;
      is = h;
    }) c.with_code.ensures.made

pub returns-clause-left : goal.returns-clause-left
returns-clause-left c =
    last_more c.with_code.result
    (λ none. way_not_coded (record { coding = c.in_ok-coding.coding; made = c.in_ok-coding.ensures; none = none })) c.with_code.ensures.left
