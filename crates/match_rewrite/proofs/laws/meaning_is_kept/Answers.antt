use Rattle.match_rewrite.proofs.FlatModels.{meaning_kept}
use Rattle.match_rewrite.proofs.AreFlat.{model_is_flat}
use Rattle.match_rewrite.proofs.laws.meaning_is_kept.Goals as goal

pub returns-clause-meaning : goal.returns-clause-meaning
returns-clause-meaning c = meaning_kept

pub returns-clause-fragment : goal.returns-clause-fragment
returns-clause-fragment c = model_is_flat
