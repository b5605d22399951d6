use Rattle.std.proofs.Common.{sym, ap, ◌∙◌}
use Rattle.sail_types.specs.Belongs.{belongs}
use Rattle.wide_types.specs.Widening.{value_spelled}
use Rattle.meeting_laws.proofs.Forms.{widened_is}
use Rattle.meeting_laws.proofs.Spelled.{spelled_wider}
use Rattle.meeting_laws.proofs.Kept.{keeps_value}
use Rattle.meeting_laws.proofs.meeting_is_sound.Goals as goal

pub returns : goal.returns
returns c types past own first shape m f full h agree v k n p facts later =
    keeps_value types past own f full h agree (value_spelled first) shape n p facts later v
    (spelled_wider types past own h first v (sym (ap (belongs types v) (widened_is types past own h first)) ∙ k))
