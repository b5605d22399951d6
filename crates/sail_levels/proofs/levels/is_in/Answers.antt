use Rattle.std.proofs.Common.{sym, ◌∙◌}
use Rattle.sail_grammar.specs.Symbol.{code}
use Rattle.sail_grammar.proofs.Words.{among_next, among_found}
use Rattle.sail_levels.proofs.Counting.{same_among}
use Rattle.sail_levels.proofs.levels.is_in.Goals as goal

pub returns-then-eq : goal.returns-then-eq
returns-then-eq c = sym (sym c.loop-one.invariant ∙
    among_found c.args.kinds.now c.loop-one.one-index _ (code c.args.kind) c.loop-one-test.true (same_among _ c.args.kind ∙ sym c.if-eq.ensures))

pub loop-one-preserved : goal.loop-one-preserved
loop-one-preserved c = among_next c.args.kinds.now c.loop-one.one-index _ (code c.args.kind) c.loop-one-test.true
    (same_among _ c.args.kind ∙ sym c.if-eq.ensures) ∙ c.loop-one.invariant
