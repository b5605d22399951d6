use Rattle.std.proofs.Common.{ap, ◌∙◌}
use Rattle.sail_globals.proofs.globals.Globals.has_mapping_val.Goals as goal

pub returns : goal.returns
returns c = λ namings h. ap (λ roles. roles.mapping_val) (c.roles.ensures ∙ h c.args.name.now)
