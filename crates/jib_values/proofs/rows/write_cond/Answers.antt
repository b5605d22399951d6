use Rattle.std.proofs.Common.{◌≡◌, ◌<◌, ◌≤◌, ◌*◌, length, arith}
use Rattle.jib_values.proofs.RowLaws.{cond_past}
use Rattle.jib_values.proofs.rows.write_cond.Goals as goal

pub returns-in_ok-made : goal.returns-in_ok-made
returns-in_ok-made g c =
    let some : 0 < c.width_of-width.result = omega arith in
    let e : length c.args.a ≡ 64 = omega (arith, c.width.ensures.value) in
    let v : length c.args.v ≡ 8 * c.width_of-width.result = omega (arith, c.width-else-width-ne64.ensures.value) in
    let past : length c.args.state.now.harts ≤ c.args.hart = omega (arith, c.harts.ensures.count) in
    cond_past c.args.hart c.args.w.now c.args.a c.args.v c.args.state.now c.in_ok-made.made c.width_of-width.result c.bits-else-hart-harts.result
    c.width_of-width.ensures.width some e v c.bits-else-hart-harts.ensures.value past c.in_ok-made.ensures
