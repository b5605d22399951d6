use Rattle.std.proofs.Common.{◌∙◌}
use Rattle.sail_kinds.specs.Scopes.{variables_of}
use Rattle.shape_functions.proofs.Settings.{setting_is}
use Rattle.shape_functions.proofs.places.around.Goals as goal

pub returns : goal.returns
returns c = λ own lets m.
    c.held_around.ensures ∙ setting_is c.args.source.now c.args.meanings.now own lets (variables_of c.args.variables.now) m
