use Rattle.std.proofs.Common.{◌∙◌, sym, arith}
use Rattle.sail_levels.specs.Counting.{nesting_of}
use Rattle.sail_levels.proofs.Counting.{deep_found, deep_next}
use Rattle.sail_levels.proofs.levels.deep.Goals as goal

pub returns-then-nesting-gt-MOST_LEVELS : goal.returns-then-nesting-gt-MOST_LEVELS
returns-then-nesting-gt-MOST_LEVELS c = sym (sym c.tokens.invariant.same ∙
    deep_found c.args.tokens.now c.tokens.index (nesting_of c.tokens.nesting) (nesting_of c.in_ok-nesting.nesting) c.index-tokens-index.result
    c.tokens-test.true c.in_ok-nesting.ensures.nested
    (omega (arith, c.in_ok-nesting.ensures.total, c.if-nesting-gt-MOST_LEVELS.true)))

pub tokens-preserved : goal.tokens-preserved
tokens-preserved c = record {
  same = sym (deep_next c.args.tokens.now c.tokens.index (nesting_of c.tokens.nesting) (nesting_of c.in_ok-nesting.nesting)
      c.index-tokens-index.result c.tokens-test.true c.in_ok-nesting.ensures.nested
      (omega (arith, c.in_ok-nesting.ensures.total, c.if-nesting-gt-MOST_LEVELS.false))) ∙ c.tokens.invariant.same;
  total = c.in_ok-nesting.ensures.total;
  few = omega (arith, c.if-nesting-gt-MOST_LEVELS.false);
  within = omega (arith, c.tokens-test.true);
}
