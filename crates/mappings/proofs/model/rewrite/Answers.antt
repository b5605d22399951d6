use Rattle.std.proofs.Common.{ap, ◌∙◌}
use Rattle.sail_core.specs.declared.fragments.Fragment.TheVariants as G
use Rattle.sail_core.specs.Fragments.{model_in}
use Rattle.sail_core.specs.Start.{model_meaning}
use Rattle.mappings.proofs.FreeModels.{made_free, meaning_kept}
use Rattle.mappings.proofs.MapFree.{model_is_free}
use Rattle.mappings.proofs.model.rewrite.Goals as goal

pub returns-clause-rewritten : goal.returns-clause-rewritten
returns-clause-rewritten c = made_free c.args.model _ _ _ c.in_ok-functions.ensures c.in_ok-directions.ensures c.in_ok-openings.ensures

pub returns-clause-means : goal.returns-clause-means
returns-clause-means c = λ resolved.
    ap model_meaning (made_free c.args.model _ _ _ c.in_ok-functions.ensures c.in_ok-directions.ensures c.in_ok-openings.ensures)
    ∙ meaning_kept c.args.model resolved

pub returns-clause-map_free : goal.returns-clause-map_free
returns-clause-map_free c =
    ap (model_in G.MapFree) (made_free c.args.model _ _ _ c.in_ok-functions.ensures c.in_ok-directions.ensures c.in_ok-openings.ensures)
    ∙ model_is_free c.args.model
