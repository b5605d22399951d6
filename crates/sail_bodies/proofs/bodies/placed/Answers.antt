use Rattle.std.proofs.Common.{refl, ◌∙◌}
use Rattle.sail_kinds.specs.Scopes.{type_named, own_of, variables_of, within}
use Rattle.sail_names.specs.Known.{known_of}
use Rattle.type_definitions.specs.Defined.{held}
use Rattle.sail_bodies.proofs.Settings.{under_is, setting_is}
use Rattle.sail_bodies.proofs.bodies.placed.Goals as goal

pub returns : goal.returns
returns c =
    let types = c.args.given.types.now in
    λ parameters are. setting_is (known_of c.args.given.names.now) (held types) c.args.allowed c.args.allowed (within c.new.result) parameters
    c.args.number
    (c.new.ensures ∙ under_is (type_named types.names) (own_of types.names) (variables_of c.args.binders.now) parameters c.requires are) refl
