use Rattle.std.proofs.Common.{ap, ◌∙◌}
use Rattle.sail_core.specs.declared.fragments.Fragment.TheVariants as G
use Rattle.sail_core.specs.Fragments.{model_in}
use Rattle.sail_core.specs.Start.{model_meaning}
use Rattle.match_rewrite.proofs.FlatModels.{made_flat, meaning_kept}
use Rattle.match_rewrite.proofs.AreFlat.{model_is_flat}
use Rattle.match_rewrite.proofs.model.rewrite.Goals as goal

pub returns-clause-rewritten : goal.returns-clause-rewritten
returns-clause-rewritten c = made_flat c.args.model _ _ _ c.in_ok-functions.ensures c.in_ok-directions.ensures c.in_ok-openings.ensures

pub returns-clause-means : goal.returns-clause-means
returns-clause-means c =
    ap model_meaning (made_flat c.args.model _ _ _ c.in_ok-functions.ensures c.in_ok-directions.ensures c.in_ok-openings.ensures)
    ∙ meaning_kept c.args.model

pub returns-clause-flat : goal.returns-clause-flat
returns-clause-flat c = λ free.
    ap (model_in G.Flat) (made_flat c.args.model _ _ _ c.in_ok-functions.ensures c.in_ok-directions.ensures c.in_ok-openings.ensures)
    ∙ model_is_flat c.args.model free
