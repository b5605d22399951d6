use Rattle.std.proofs.Common.{arith, ne_eqb, sym, ◌∙◌}
use Rattle.sail_lex.proofs.Parts.{good_byte, size_byte}
use Rattle.sail_lex.proofs.text.body_length.Goals as goal

-- a byte that is printable, and neither a quote nor a `\`, is a good part
pub loop-at-preserved : goal.loop-at-preserved
loop-at-preserved c =
    let text = c.args.text.now in let i = c.loop-at.at in
    let backslash = ne_eqb _ _ c.if-byte-eq92.false in
    let quote = ne_eqb _ _ c.if-byte-eq34.false in
    let feed = ne_eqb _ _ c.if-byte-eq10.false in
    record {
      within = omega arith;
      good = good_byte text i c.loop-at-test.true backslash quote feed (sym c.is_printable.ensures ∙ c.if-not-is_printable.false) ∙ c.loop-at.invariant.good;
      size = omega (arith, size_byte text i c.loop-at-test.true backslash quote feed, c.loop-at.invariant.size);
    }
