use Rattle.std.proofs.Common.{◌≡◌, sym, subst}
use Rattle.std.specs.Prelude.{IfOk}
use Rattle.lowered_pieces.specs.Writes.{way_typ}
use Rattle.lowered_steps.proofs.parts.way_type.Goals as goal

pub returns-in-Item : goal.returns-in-Item
returns-in-Item c =
    subst (λ w. IfOk c.inner_type.result (λ part. part ≡ way_typ c.args.types.now w c.args.typ.now)) (sym c.in-Item.is)
    (c.inner_type.ensures c.args.types.now)
