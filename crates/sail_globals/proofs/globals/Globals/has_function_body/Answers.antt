use Rattle.std.proofs.Common.{ap, ◌∙◌}
use Rattle.sail_globals.proofs.globals.Globals.has_function_body.Goals as goal

pub returns : goal.returns
returns c = λ namings h. ap (λ roles. roles.function_body) (c.roles.ensures ∙ h c.args.name.now)
