use Rattle.std.proofs.Common.{◌∙◌}
use Rattle.sail_base.proofs.Words.{mixed_product_fits, mixed_product_of}
use Rattle.sail_base.proofs.word.Word.mul_wide_su.Goals as goal

pub overflow_mul-signed : goal.overflow_mul-signed
overflow_mul-signed c =
    mixed_product_fits _ _ _ _ c.signed.ensures c.unsigned.ensures c.requires.same c.requires.small
    (record { sfits = c.signed.type_inv }) (record { sfits = c.unsigned.type_inv })

pub returns : goal.returns
returns c =
    c.of_int.ensures ∙ mixed_product_of _ _ _ _ _ c.signed.ensures c.unsigned.ensures c.width.ensures.value
    c.requires.same c.requires.small (record { sfits = c.signed.type_inv }) (record { sfits = c.unsigned.type_inv })
