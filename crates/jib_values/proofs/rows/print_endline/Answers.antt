use Rattle.std.proofs.Common.{refl, subst, ◌++◌, ◌∷◌, []}
use Rattle.model_state.specs.StateRows.{Puts}
use Rattle.jib_values.proofs.RowLaws.{put_made}
use Rattle.jib_values.proofs.rows.print_endline.Goals as goal

pub returns : goal.returns
returns g c =
    put_made c.args.hart (c.args.text.now ++ 10 ∷ []) c.args.state.now c.print_endline.new.self c.print_endline.result c.in_ok-made.made _
    (subst (λ q. Puts c.args.state.now (q ++ 10 ∷ []) c.print_endline.new.self c.print_endline.result) c.as_bytes.ensures c.print_endline.ensures)
    c.in_ok-made.ensures.ended c.in_ok-made.ensures.there refl
