use Rattle.std.proofs.Common.{ap, ◌∙◌}
use Rattle.sail_types.specs.Sums.{and_then}
use Rattle.shape_rules.specs.Scopes.{local_of}
use Rattle.shape_rules.specs.parts.Entries.{local_at}
use Rattle.shape_rules.proofs.Found.{found_in}
use Rattle.shape_rules.proofs.locals.Locals.find.Goals as goal

pub returns : goal.returns
returns c =
    c.local_at.ensures
    ∙ (λ j. and_then (c.place_in-place.ensures j) (local_at (c.as_slice.ensures.value j)))
    ∙ found_in c.self.inside.places c.self.inside.entered.items c.args.name.now c.self.invariant
    ∙ ap (local_of c.args.name.now) c.self.view_is
