-- A model without mappings and with flat arms, one after the other.
use Rattle.std.proofs.Common.{◌≡◌, ◌∙◌, ap}
use Rattle.sail_core.specs.declared.model.CoreModel.{CoreModel}
use Rattle.mappings.specs.Rewriting.{without_mappings}
use Rattle.match_rewrite.specs.Rewriting.{with_flat_arms}

pub flat_is : (written free flat : CoreModel) → free ≡ without_mappings written → flat ≡ with_flat_arms free
    → flat ≡ with_flat_arms (without_mappings written)
flat_is written free flat f e = e ∙ ap with_flat_arms f
