use Rattle.std.proofs.Common.{ℕ, List, Option, ap, ◌∙◌}
use Rattle.sail_kinds.specs.Scopes.{variables_of}
use Rattle.shape_models.specs.Models.{within_variables}
use Rattle.shape_models.specs.Sources.{tabled_by}
use Rattle.shape_functions.specs.Parts.{held_within}
use Rattle.shape_functions.proofs.places.held_around.Goals as goal

pub returns : goal.returns
returns c =
    let variables = variables_of c.args.variables.now in
    ap (held_within c.args.source c.args.meanings.now)
    (c.new.ensures ∙ ap (λ (o : Option (List ℕ)). record (within_variables (tabled_by c.args.source) variables) { own = o }) c.requires.no_union)
