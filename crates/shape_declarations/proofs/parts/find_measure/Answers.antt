use Rattle.std.proofs.Common.{◌≡◌, sym, ap, ◌∙◌, slice_get}
use Rattle.sail_types.specs.Sums.{and_then}
use Rattle.sail_signatures.specs.declared.parts.Parts.{Parts}
use Rattle.sail_signatures.specs.Parts.{is_measure_of}
use Rattle.shape_declarations.proofs.Found.{found_at}
use Rattle.shape_declarations.proofs.parts.find_measure.Goals as goal

pub returns : goal.returns
returns c =
    let text = c.args.source.now.definitions.now in
    c.definition_at.ensures
    ∙ ap (λ (parts : Parts). and_then parts.measure (slice_get text)) (c.parts-parts.ensures text c.requires.callables)
    ∙ sym (found_at (is_measure_of c.args.name.now) text)
