use Rattle.std.proofs.Common.{◌^◌, ◌%◌, ◌∙◌, ap}
use Rattle.sail_base.proofs.Words.{shl_of}
use Rattle.sail_base.proofs.word.Word.shl.Goals as goal

pub returns : goal.returns
returns c =
    shl_of 128 _ _ _ _ _ c.self.view_is c.self.invariant.small
    (c.low_bits.ensures ∙ ap (λ n. n % 2 ^ c.self.inside.width) c.moved_up.ensures)
