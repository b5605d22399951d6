use Rattle.std.proofs.Common.{◌∙◌}
use Rattle.mem_store.proofs.Little.{read_number, read_word, read_below, span_fits}
use Rattle.mem_store.proofs.flat.word_at.Goals as goal

pub new-requires-clause-below : goal.new-requires-clause-below
new-requires-clause-below c = read_below c.args.bytes.now c.args.at c.args.w _ c.requires.within
    (c.read_uint128-number.ensures ∙ read_number c.args.bytes.now c.args.at c.args.w (λ k. (c.type_inv.bytes k).fits)
    c.requires.within)

pub returns-clause-word : goal.returns-clause-word
returns-clause-word c = c.new.ensures ∙ read_word c.args.bytes.now c.args.at c.args.w _ c.requires.within
    (c.read_uint128-number.ensures ∙ read_number c.args.bytes.now c.args.at c.args.w (λ k. (c.type_inv.bytes k).fits)
    c.requires.within)

pub returns-clause-fits : goal.returns-clause-fits
returns-clause-fits c = span_fits c.args.bytes.now c.args.at c.args.w (λ k. (c.type_inv.bytes k).fits)
