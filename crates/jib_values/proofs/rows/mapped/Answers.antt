use Rattle.std.proofs.Common.{◌≡◌, ◌<◌, length, arith}
use Rattle.jib_values.proofs.RowLaws.{mapped_made}
use Rattle.jib_values.proofs.rows.mapped.Goals as goal

pub returns : goal.returns
returns g c =
    let some : 0 < c.width_of-width.result = omega arith in
    let e : length c.args.a ≡ 64 = omega (arith, c.width.ensures.value) in
    mapped_made c.args.hart c.args.w.now c.args.a c.args.state.now c.mem_mapped.result c.width_of-width.result c.bits.result c.width_of-width.ensures.width
    some e c.bits.ensures.value c.mem_mapped.ensures
