use Rattle.std.proofs.Common.{sym, ap, ◌∙◌}
use Rattle.sail_types.specs.Belongs.{belongs}
use Rattle.value_indices.specs.declared.indices.Reading.TheVariants as R
use Rattle.value_laws.proofs.Steps.{gives, goes_then}
use Rattle.meeting_laws.proofs.Forms.{widened_is}
use Rattle.meeting_laws.proofs.Kept.{keeps_wide}
use Rattle.meeting_laws.proofs.filling_is_sound.Goals as goal

pub returns : goal.returns
returns c types past own first shape m f full h agree n p facts later =
    let r = keeps_wide types past own f full h agree first shape n p facts later in (
      r.0,
      (λ v k. r.1 v (sym (ap (belongs types v) (widened_is types past own h first)) ∙ k)),
      goes_then r.2 (λ k q fs j b e. gives (R.Widened j) (λ g a. widened_is types past own g j ∙ e g a)),
    )
