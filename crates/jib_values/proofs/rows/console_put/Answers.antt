use Rattle.std.proofs.Common.{refl, sym, ◌∙◌, ◌≡◌, ◌∷◌, [], length, arith}
use Rattle.sail_base.specs.Bits.{value_of}
use Rattle.jib_values.proofs.RowLaws.{put_made, byte_calls}
use Rattle.jib_values.proofs.rows.console_put.Goals as goal

pub returns : goal.returns
returns g c =
    let e : length c.args.b ≡ 8 = omega (arith, c.width.ensures.value) in
    put_made c.args.hart (value_of c.args.b ∷ []) c.args.state.now c.console_put.new.self c.console_put.result c.in_ok-made.made _
    c.console_put.ensures c.in_ok-made.ensures.ended c.in_ok-made.ensures.there (byte_calls c.args.hart c.args.state.now c.args.b e)
