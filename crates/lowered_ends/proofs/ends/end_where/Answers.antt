use Rattle.std.proofs.Common.{◌∙◌, sym, ap}
use Rattle.lowered_ends.specs.Ends.{end_where}
use Rattle.lowered_pieces.specs.Forms.{one_end}
use Rattle.size_values.specs.declared.sized.Sized.{Sized}
use Rattle.std.specs.Prelude.{Bool}
use Rattle.lowered_ends.proofs.ends.end_where.Goals as goal

pub returns-in_ok-copy_sized : goal.returns-in_ok-copy_sized
returns-in_ok-copy_sized c =
    ap (λ (t : Sized). one_end t) c.in_ok-copy_sized.ensures ∙ ap (λ (b : Bool). end_where c.args.typ.now b) (sym c.if-all.true)
