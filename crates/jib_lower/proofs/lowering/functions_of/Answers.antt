use Rattle.std.proofs.Common.{◌∙◌}
use Rattle.std.proofs.lemmas.Result.{IfOk-weaker}
use Rattle.jib_lower.proofs.Unmade.{last_more}
use Rattle.jib_lower.proofs.lowering.functions_of.Goals as goal

pub returns-clause-made : goal.returns-clause-made
returns-clause-made c =
    IfOk-weaker c.make_functions.result _ _ (λ functions h. record {
      model = c.model_by-model.result;
      is = c.model_by-model.ensures.is;
      lets = c.model_by-model.ensures.lets ∙ c.as_slice-lets.ensures;
      names = c.model_by-model.ensures.openings ∙ c.as_slice-openings.ensures;
      made = h;
    }) c.make_functions.ensures.made

pub returns-clause-left : goal.returns-clause-left
returns-clause-left c =
    last_more c.make_functions.result (λ why. record {
      model = c.model_by-model.result;
      is = c.model_by-model.ensures.is;
      lets = c.model_by-model.ensures.lets ∙ c.as_slice-lets.ensures;
      names = c.model_by-model.ensures.openings ∙ c.as_slice-openings.ensures;
      why = why;
    }) c.make_functions.ensures.left
