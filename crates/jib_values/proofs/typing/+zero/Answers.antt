use Rattle.std.proofs.Common.{◌≡◌, ◌∙◌, ◌*◌, ◌<◌, arith}
use Rattle.jib_values.proofs.TypeLaws.{zero_found, narrow_found, narrow_word}
use Rattle.jib_values.proofs.typing.+zero.Goals as goal

pub zero_within-returns-in_ok-value-in-Some : goal.zero_within-returns-in_ok-value-in-Some
zero_within-returns-in_ok-value-in-Some t c =
    let some : 0 < c.args.depth = omega arith in
    c.in_ok-value-in-Some.ensures
    ∙ zero_found c.args.types.now c.args.depth c.args.typ c.type_at.result c.in-Some.found some c.type_at.ensures c.in-Some.is

pub zero_within-zero_of_form-requires : goal.zero_within-zero_of_form-requires
zero_within-zero_of_form-requires t c =
    let all : 4 * c.args.depth ≡ t = c.decreases in
    let some : 0 < c.args.depth = omega arith in (
      omega (arith, all, some),
      (
        c.requires.narrow,
        narrow_found c.args.types.now c.args.typ c.type_at.result c.in-Some.found c.requires.narrow c.type_at.ensures c.in-Some.is,
      ),
    )

pub zero_of_form-zeros-requires : goal.zero_of_form-zeros-requires
zero_of_form-zeros-requires t c = narrow_word c.args.typ.now c.in-Bits.width c.in-Bits.is c.requires.typ
