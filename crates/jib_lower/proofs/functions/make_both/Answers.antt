use Rattle.std.proofs.Common.{◌∙◌, sym}
use Rattle.jib_lower.specs.Left.{not_able, not_typed}
use Rattle.jib_lower.proofs.functions.make_both.Goals as goal

pub put_both-requires : goal.put_both-requires
put_both-requires c =
    record {
      able = λ name. sym (c.in_ok-able.ensures name) ∙ c.if-able.true;
      typed = sym c.in_ok-typed.ensures ∙ c.if-typed.true;
    }

pub returns-then-typed-clause-made : goal.returns-then-typed-clause-made
returns-then-typed-clause-made c = c.put_both.ensures.made

pub returns-then-typed-clause-left : goal.returns-then-typed-clause-left
returns-then-typed-clause-left c = c.put_both.ensures.left

pub returns-else-typed-clause-left : goal.returns-else-typed-clause-left
returns-else-typed-clause-left c = not_typed (sym c.in_ok-typed.ensures ∙ c.if-typed.false)

pub returns-else-able-clause-left : goal.returns-else-able-clause-left
returns-else-able-clause-left c = not_able (λ name. sym (c.in_ok-able.ensures name) ∙ c.if-able.false)
