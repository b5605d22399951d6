use Rattle.std.proofs.Common.{sym, ap, ◌∙◌}
use Rattle.sail_types.specs.Belongs.{belongs}
use Rattle.sail_types.specs.Zero.{deepest}
use Rattle.wide_types.specs.Widening.{value_spelled}
use Rattle.meeting_laws.proofs.Forms.{widened_is}
use Rattle.meeting_laws.proofs.Spelled.{spelled_wider}
use Rattle.meeting_laws.proofs.Agreeing.{agrees_so}
use Rattle.meeting_laws.proofs.agreeing_is_sound.Goals as goal

pub returns : goal.returns
returns c types past own first later shape m f full h agree told tells k v e n p facts behind =
    agrees_so types past own f full h agree deepest (value_spelled first) (value_spelled later) told tells k shape n p facts behind v
    (spelled_wider types past own h later v (sym (ap (belongs types v) (widened_is types past own h later)) ∙ e))
