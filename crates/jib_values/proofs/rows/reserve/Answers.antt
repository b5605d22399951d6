use Rattle.std.proofs.Common.{◌∙◌, ap, ◌≡◌, ◌<◌, ◌≤◌, length, arith}
use Rattle.sail_types.specs.declared.values.Value.TheVariants as V
use Rattle.model_state.specs.laws.Results.{ended_with}
use Rattle.jib_values.proofs.RowLaws.{reserve_past}
use Rattle.jib_values.proofs.rows.reserve.Goals as goal

pub returns-in_ok-made : goal.returns-in_ok-made
returns-in_ok-made g c =
    let some : 0 < c.width_of-width.result = omega arith in
    let e : length c.args.a ≡ 64 = omega (arith, c.width.ensures.value) in
    let past : length c.args.state.now.harts ≤ c.args.hart = omega (arith, c.harts.ensures.count) in
    reserve_past c.args.hart c.args.w.now c.args.a c.args.state.now c.in_ok-made.made c.width_of-width.result c.bits-else-hart-harts.result
    c.width_of-width.ensures.width some e c.bits-else-hart-harts.ensures.value past
    (c.in_ok-made.ensures ∙ ap (ended_with V.Bits) c.mem_read.ensures)
