use Rattle.std.proofs.Common.{ap, ◌∙◌}
use Rattle.sail_types.specs.Belongs.{belongs}
use Rattle.meeting_laws.proofs.Forms.{is_wide, widened_is}
use Rattle.meeting_laws.proofs.has_its_type.Goals as goal

pub returns : goal.returns
returns c types past own g i v h = ap (belongs types v) (widened_is types past own g i) ∙ is_wide types past own g i v h
