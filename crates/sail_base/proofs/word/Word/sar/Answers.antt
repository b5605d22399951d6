use Rattle.std.proofs.Common.{sym, ap, ◌∙◌}
use Rattle.sail_base.specs.Bits.{not_bits, shr_bits}
use Rattle.sail_base.specs.laws.BitSigns.{sar_bits-negative}
use Rattle.sail_base.proofs.word.Word.sar.Goals as goal

pub returns-then-top : goal.returns-then-top
returns-then-top c =
    c.not-then-top.ensures ∙ ap not_bits (c.shr.ensures ∙ ap (λ a. shr_bits a c.args.by) c.not.ensures)
    ∙ sar_bits-negative c.args.self c.args.by (sym c.top.ensures ∙ c.if-top.true)
