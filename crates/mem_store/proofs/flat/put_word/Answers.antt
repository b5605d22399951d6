use Rattle.std.proofs.Common.{◌∙◌, ◌^◌, ap, arith}
use Rattle.std.specs.Int.{bytes_low_first}
use Rattle.mem_store.proofs.Little.{bytes_of_bits, written_bytes, put_bytes}
use Rattle.mem_store.specs.laws.Words.{length-word_bytes}
use Rattle.mem_store.proofs.flat.put_word.Goals as goal

pub write_uint128-requires-clause-fits : goal.write_uint128-requires-clause-fits
write_uint128-requires-clause-fits c = omega (arith, bytes_of_bits c.args.w, ap (λ n. 2 ^ n) c.requires.width, c.bits.ensures.below)

pub returns : goal.returns
returns c =
    let same = ap (bytes_low_first 0 c.args.w) c.bits.ensures.value ∙ written_bytes c.args.w c.args.v c.requires.width in
    put_bytes c.args.bytes.now _ _ _ c.args.at c.args.w c.requires.within (length-word_bytes c.args.w c.args.v) same c.write_uint128.ensures
