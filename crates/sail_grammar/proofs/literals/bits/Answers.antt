use Rattle.std.proofs.Common.{◌∙◌}
use Rattle.sail_grammar.proofs.Ascii.{bits_short, bits_wide}
use Rattle.sail_grammar.proofs.literals.bits.Goals as goal

pub returns-then-text-lt2 : goal.returns-then-text-lt2
returns-then-text-lt2 c = c.new.ensures ∙ bits_short c.args.text.now c.if-text-lt2.true

pub returns-in-None : goal.returns-in-None
returns-in-None c = c.new-in-None.ensures ∙ bits_wide c.args.text.now c.if-text-lt2.false c.in-None.ensures.none
