use Rattle.std.proofs.Common.{refl, subst}
use Rattle.model_state.specs.StateRows.{Puts}
use Rattle.jib_values.proofs.RowLaws.{put_made}
use Rattle.jib_values.proofs.rows.print.Goals as goal

pub returns : goal.returns
returns g c =
    put_made c.args.hart c.args.text.now c.args.state.now c.print.new.self c.print.result c.in_ok-made.made _
    (subst (λ q. Puts c.args.state.now q c.print.new.self c.print.result) c.as_bytes.ensures c.print.ensures)
    c.in_ok-made.ensures.ended c.in_ok-made.ensures.there refl
