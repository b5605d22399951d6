use Rattle.std.proofs.Common.{◌≡◌, ◌*◌, ◌%◌, ◌^◌, ◌∙◌, ap, arith, ◌-◌}
use Rattle.std.proofs.lemmas.Nat.{and_mask, shl_whole}
use Rattle.std.specs.Int.RustNames.{bit_and}
use Rattle.sail_base.proofs.word.low_bits.Goals as goal

pub returns-else-width-eq128 : goal.returns-else-width-eq128
returns-else-width-eq128 c =
    let power : 1 * 2 ^ c.args.width % 2 ^ 128 ≡ 2 ^ c.args.width = shl_whole 1 1 c.args.width 128 (omega arith) (omega arith) ∙ omega arith in
    ap (λ p. bit_and c.args.number (p - 1)) power ∙ and_mask c.args.number c.args.width
