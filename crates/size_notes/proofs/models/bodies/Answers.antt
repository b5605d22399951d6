use Rattle.std.proofs.Common.{◌≡◌, map, ap, ◌∙◌}
use Rattle.pattern_leaves.specs.Settings.{around_of}
use Rattle.constraint_gen.specs.Models.{around_with}
use Rattle.constraint_gen.specs.Models as models
use Rattle.size_notes.specs.Bodies.{function_bodies, mapping_bodies}
use Rattle.size_notes.proofs.models.bodies.Goals as goal

pub returns : goal.returns
returns c =
    let core = c.args.core.now in
    let settings : around_of c.around_model-around.result ≡ models.around_of core =
    c.around_model-around.ensures ∙ (ap (around_with core) c.as_slice.ensures ∙ c.in_ok-lets.ensures.names) in
    λ i. record {
      functions = (c.in_ok-functions.ensures ∙ (λ j. map (function_bodies (settings j)) (c.as_slice-2.ensures j))) i;
      mappings = (c.in_ok-mappings.ensures ∙ (λ j. mapping_bodies (settings j) (c.as_slice-3.ensures j))) i;
      openings = c.in_ok-openings.ensures i;
    }
