use Rattle.std.proofs.Common.{sym, ◌∙◌}
use Rattle.sail_grammar.proofs.Ascii.{ascii_stops, ascii_next, ascii_ends}
use Rattle.sail_grammar.proofs.literals.is_ascii.Goals as goal

pub returns-then-byte-ge128 : goal.returns-then-byte-ge128
returns-then-byte-ge128 c = sym (sym c.loop-byte.invariant ∙ ascii_stops c.args.bytes.now c.loop-byte.byte-index _ c.loop-byte-test.true c.if-byte-ge128.true)

pub loop-byte-preserved : goal.loop-byte-preserved
loop-byte-preserved c = ascii_next c.args.bytes.now c.loop-byte.byte-index _ c.loop-byte-test.true c.if-byte-ge128.false ∙ c.loop-byte.invariant

pub returns : goal.returns
returns c = sym (sym c.loop-byte.invariant ∙ ascii_ends c.args.bytes.now c.loop-byte.byte-index c.loop-byte-test.false)
