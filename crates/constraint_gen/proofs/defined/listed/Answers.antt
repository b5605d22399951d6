use Rattle.std.proofs.Common.{◌++◌, [], sym, ◌∙◌}
use Rattle.constraint_gen.specs.Defined.{definitions_of}
use Rattle.constraint_gen.specs.Models.{around_with, function_definitions, mapping_definitions, opening_definitions}
use Rattle.constraint_gen.proofs.defined.listed.Goals as goal

pub returns : goal.returns
returns c = λ around.
    let core = c.args.core.now in
    let fs = c.in_ok-put_functions.ensures core around (sym c.as_slice.ensures)
    ∙ (λ j. definitions_of core around (c.new-list.ensures j) ++ function_definitions around (c.as_slice.ensures j)) in
    let ms = c.in_ok-put_mappings.ensures core around (sym c.as_slice-2.ensures)
    ∙ (λ j. fs j ++ mapping_definitions around (c.as_slice-2.ensures j)) in
    c.in_ok-put_openings.ensures core around (sym c.as_slice-3.ensures) ∙ (λ j. ms j ++ opening_definitions (around_with core []) (c.as_slice-3.ensures j))
