use Rattle.mappings.proofs.FreeModels.{meaning_kept}
use Rattle.mappings.proofs.MapFree.{model_is_free}
use Rattle.mappings.proofs.laws.meaning_is_kept.Goals as goal

pub returns-clause-meaning : goal.returns-clause-meaning
returns-clause-meaning c = meaning_kept

pub returns-clause-fragment : goal.returns-clause-fragment
returns-clause-fragment c = model_is_free
