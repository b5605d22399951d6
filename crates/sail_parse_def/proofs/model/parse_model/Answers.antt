use Rattle.std.proofs.Common.{List, ◌∙◌, subst}
use Rattle.std.specs.Result.{IfOk, IfErr}
use Rattle.sail_base.specs.declared.place.Place.{Place}
use Rattle.sail_grammar.specs.Symbol.{Sign}
use Rattle.sail_grammar.specs.Leaves.{nowhere}
use Rattle.sail_grammar.specs.Joined.{end_from}
use Rattle.sail_grammar.specs.Model.{IsModel, IsRefusal}
use Rattle.sail_parse_def.proofs.model.parse_model.Goals as goal

pub returns-in-Ok-clause-model : goal.returns-in-Ok-clause-model
returns-in-Ok-clause-model c =
    subst (λ (ss : List Sign). IfOk c.parse_all.result (λ defs. IsModel ss defs.items)) (c.as_slice.ensures ∙
    c.in-Ok.ensures) c.parse_all.ensures.model

pub returns-in-Ok-clause-refused : goal.returns-in-Ok-clause-refused
returns-in-Ok-clause-refused c =
    subst (λ (ss : List Sign). IfErr c.parse_all.result (λ e. IsRefusal ss (end_from nowhere c.args.files.now) e)) (c.as_slice.ensures ∙
    c.in-Ok.ensures)
    (subst (λ (end : Place). IfErr c.parse_all.result (λ e. IsRefusal c.as_slice.result.now end e)) c.last_end.ensures c.parse_all.ensures.refused)
