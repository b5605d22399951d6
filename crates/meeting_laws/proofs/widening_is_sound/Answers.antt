use Rattle.std.proofs.Common.{ap, ◌∙◌}
use Rattle.sail_types.specs.Belongs.{belongs}
use Rattle.wide_types.specs.Widening.{wide_value}
use Rattle.meeting_laws.proofs.Forms.{is_wide, widened_is}
use Rattle.meeting_laws.proofs.Widened.{type_widens, value_widens}
use Rattle.meeting_laws.proofs.widening_is_sound.Goals as goal

pub returns : goal.returns
returns c types past own g v = (
  (λ r k. type_widens types past own g r v k),
  (λ i k. ap (belongs types v) (widened_is types past own g (wide_value i)) ∙ value_widens types past own g i v (is_wide types past own g i v k)),
)
