use Rattle.std.proofs.Common.{sym, ◌∙◌}
use Rattle.sail_grammar.specs.Levels.{one_deeper}
use Rattle.sail_levels.specs.Counting.{nesting_of}
use Rattle.sail_levels.proofs.Counting.{counted_as, counted_opening, counted_closing, counted_separator}
use Rattle.sail_levels.proofs.Counting.{counted_level, counted_other}
use Rattle.sail_levels.proofs.levels.counted.Goals as goal

pub returns-then-is_in-clause-counted : goal.returns-then-is_in-clause-counted
returns-then-is_in-clause-counted c =
    counted_as (nesting_of c.args.nesting) _ c.args.kind c.open.result
    (counted_opening (nesting_of c.args.nesting) c.args.kind (sym c.is_in.ensures ∙ c.if-is_in.true)) c.open.ensures.opened

pub returns-then-is_in-2-clause-counted : goal.returns-then-is_in-2-clause-counted
returns-then-is_in-2-clause-counted c = c.close.ensures.closed ∙ sym (counted_closing (nesting_of c.args.nesting) c.args.kind
    (sym c.is_in.ensures ∙ c.if-is_in.false) (sym c.is_in-else-is_in.ensures ∙ c.if-is_in-2.true))

pub returns-then-is_in-3-clause-counted : goal.returns-then-is_in-3-clause-counted
returns-then-is_in-3-clause-counted c =
    counted_as (nesting_of c.args.nesting) _ c.args.kind c.separate.result
    (counted_separator (nesting_of c.args.nesting) c.args.kind (sym c.is_in.ensures ∙ c.if-is_in.false)
    (sym c.is_in-else-is_in.ensures ∙ c.if-is_in-2.false) (sym c.is_in-else-is_in-2.ensures ∙ c.if-is_in-3.true)) c.separate.ensures.parted

pub returns-then-is_level-clause-counted : goal.returns-then-is_level-clause-counted
returns-then-is_level-clause-counted c =
    counted_as (nesting_of c.args.nesting) _ c.args.kind c.deepen.result
    (counted_level (nesting_of c.args.nesting) c.args.kind (sym c.is_in.ensures ∙ c.if-is_in.false)
    (sym c.is_in-else-is_in.ensures ∙ c.if-is_in-2.false) (sym c.is_in-else-is_in-2.ensures ∙ c.if-is_in-3.false)
    (sym c.is_level-is_level.ensures ∙ c.if-is_level.true) ∙
    (λ i. one_deeper (sym c.pass-passed.ensures.passed i).inside (sym c.pass-passed.ensures.passed i))) c.deepen.ensures.deeper

pub returns-else-is_level-clause-counted : goal.returns-else-is_level-clause-counted
returns-else-is_level-clause-counted c = c.pass-passed.ensures.passed ∙
    sym (counted_other (nesting_of c.args.nesting) c.args.kind (sym c.is_in.ensures ∙ c.if-is_in.false) (sym c.is_in-else-is_in.ensures ∙
    c.if-is_in-2.false) (sym c.is_in-else-is_in-2.ensures ∙ c.if-is_in-3.false) (sym c.is_level-is_level.ensures ∙ c.if-is_level.false))
