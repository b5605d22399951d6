use Rattle.std.proofs.Common.{ap, ◌∙◌}
use Rattle.sail_globals.proofs.globals.Globals.meaning.Goals as goal

pub returns : goal.returns
returns c = λ namings h. ap (λ roles. roles.first) (c.roles.ensures ∙ h c.args.name.now)
