use Rattle.std.proofs.Common.{cond, bytes_eq, sym, ap, ◌∙◌, Some, None}
use Rattle.std.specs.Option.{option_or}
use Rattle.shape_models.proofs.Steps.{meant_more}
use Rattle.shape_models.proofs.values.hold_entries.Goals as goal

pub loop-entry-preserved : goal.loop-entry-preserved
loop-entry-preserved c =
    let e = c.in-Some.entry in
    λ name. c.in_ok-put_entry.ensures name
    ∙ ap (λ old. option_or old (cond (bytes_eq e.name name) (Some e.meant) None)) (c.loop-entry.invariant name)
    ∙ sym (meant_more c.loop-entry.yielded e name)
