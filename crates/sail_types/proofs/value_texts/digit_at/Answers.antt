use Rattle.std.proofs.Common.{◌<◌, ◌*◌, arith}
use Rattle.sail_types.proofs.Digits.{below_sixteen}
use Rattle.sail_types.proofs.value_texts.digit_at.Goals as goal

pub overflow_cast-result : goal.overflow_cast-result
overflow_cast-result c =
    let small : c.bits.result < 16 = below_sixteen c.bits.result c.args.bits_each (c.args.bits_each * c.args.below) c.slice-part.result
    c.args.word c.requires.some c.requires.few c.slice-part.ensures c.bits.ensures.below in
    omega (arith, small)

pub bounds-bits : goal.bounds-bits
bounds-bits c = below_sixteen c.bits.result c.args.bits_each (c.args.bits_each * c.args.below) c.slice-part.result c.args.word
    c.requires.some c.requires.few c.slice-part.ensures c.bits.ensures.below
