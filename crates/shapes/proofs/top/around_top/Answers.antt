use Rattle.std.proofs.Common.{List, ap, ◌∙◌}
use Rattle.sail_kinds.specs.declared.scope.Variable.{Variable}
use Rattle.shape_models.specs.Models.{setting_of}
use Rattle.shape_models.specs.Sources.{tabled_by}
use Rattle.shapes.proofs.top.around_top.Goals as goal

pub returns : goal.returns
returns c = λ own lets are.
    c.around.ensures own lets are
    ∙ ap (λ (vs : List Variable). setting_of (tabled_by c.args.top.source) own c.args.top.source.definitions.now lets vs) c.requires.variables
