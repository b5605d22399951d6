use Rattle.std.proofs.Common.{sym, ap, ◌∙◌}
use Rattle.sail_base.specs.Bits.{not_bits, zext_bits}
use Rattle.sail_base.specs.laws.BitSigns.{sext_bits-negative}
use Rattle.sail_base.proofs.word.Word.sext.Goals as goal

pub returns-then-top : goal.returns-then-top
returns-then-top c =
    c.not-then-top.ensures ∙ ap not_bits (c.zext.ensures ∙ ap (λ a. zext_bits a c.args.width) c.not.ensures)
    ∙ sext_bits-negative c.args.self c.args.width (sym c.top.ensures ∙ c.if-top.true)
