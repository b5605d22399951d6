use Rattle.std.proofs.Common.{◌∙◌}
use Rattle.sail_base.proofs.Words.{signed_product_fits, signed_product_of}
use Rattle.sail_base.proofs.word.Word.mul_wide_ss.Goals as goal

pub overflow_mul-signed : goal.overflow_mul-signed
overflow_mul-signed c =
    signed_product_fits _ _ _ _ c.signed.ensures c.signed-2.ensures c.requires.same c.requires.small
    (record { sfits = c.signed.type_inv }) (record { sfits = c.signed-2.type_inv })

pub returns : goal.returns
returns c =
    c.of_int.ensures ∙ signed_product_of _ _ _ _ _ c.signed.ensures c.signed-2.ensures c.width.ensures.value
    c.requires.same c.requires.small (record { sfits = c.signed.type_inv }) (record { sfits = c.signed-2.type_inv })
