use Rattle.std.proofs.Common.{◌∙◌, ap, ◌&&◌}
use Rattle.lowered_types.specs.Table.{is_known}
use Rattle.size_values.specs.declared.sized.Sized.{Sized}
use Rattle.lowered_ends.proofs.able.is_literal.Goals as goal

pub returns : goal.returns
returns c =
    c.both.ensures ∙ (λ i. c.is_fitting-fits.ensures i && (c.in_ok-known.ensures ∙ ap (λ (t : Sized). is_known c.args.setting.now.numbered.now t)
    (c.in_ok-typ.ensures c.args.setting.now.types.now)) i)
