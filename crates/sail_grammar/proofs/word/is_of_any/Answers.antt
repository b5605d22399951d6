use Rattle.std.proofs.Common.{sym, ◌∙◌}
use Rattle.sail_grammar.specs.Symbol.{symbol}
use Rattle.sail_grammar.proofs.Words.{among_next, among_found}
use Rattle.sail_grammar.proofs.word.is_of_any.Goals as goal

pub returns-then-is_of : goal.returns-then-is_of
returns-then-is_of c = sym (sym c.loop-kind.invariant ∙
    among_found c.args.kinds.now c.loop-kind.kind-index _ (symbol c.args.token.now) c.loop-kind-test.true (sym c.is_of.ensures ∙ c.if-is_of.true))

pub loop-kind-preserved : goal.loop-kind-preserved
loop-kind-preserved c = among_next c.args.kinds.now c.loop-kind.kind-index _ (symbol c.args.token.now) c.loop-kind-test.true
    (sym c.is_of.ensures ∙ c.if-is_of.false) ∙ c.loop-kind.invariant
