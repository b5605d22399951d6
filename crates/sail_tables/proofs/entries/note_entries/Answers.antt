use Rattle.std.proofs.Common.{◌≡◌, ◌&&◌, ap, ◌∙◌, codes}
use Rattle.sail_globals.specs.Namings.{all_namings}
use Rattle.sail_signatures.specs.Starts.{is_reset, is_step}
use Rattle.sail_tables.specs.Refused.{has_reset, has_step}
use Rattle.sail_tables.proofs.EntryPoints.{entries_noted}
use Rattle.sail_tables.proofs.entries.note_entries.Goals as goal

pub returns : goal.returns
returns c = λ text named signed.
    let resets : (c.has_function_body-has_reset.result && c.starts_so-starts.result) ≡ has_reset text =
    λ i. c.has_function_body-has_reset.ensures (all_namings text) named i && (c.starts_so-starts.ensures ∙ ap is_reset (signed (codes "reset"))) i in
    let steps : (c.has_function_body-has_step.result && c.steps_so-steps.result) ≡ has_step text =
    λ i. c.has_function_body-has_step.ensures (all_namings text) named i && (c.steps_so-steps.ensures ∙ ap is_step (signed (codes "step"))) i in
    entries_noted text c.args.end c.args.first.now.error c.note_entry.new.first.error c.note_entry-2.new.first.error
    (c.has_function_body-has_reset.result && c.starts_so-starts.result) (c.has_function_body-has_step.result && c.steps_so-steps.result)
    resets steps c.in_ok-note_entry.ensures c.in_ok-note_entry-2.ensures
