use Rattle.monomorph.specs.Reading.{inside_of}
use Rattle.monomorph.proofs.Noted.{made_step}
use Rattle.monomorph.proofs.bodies.read_step.Goals as goal

pub returns-in-Sizes : goal.returns-in-Sizes
returns-in-Sizes c =
    made_step c.read_made.result (inside_of c.args.inside.now) c.args.facts.now c.args.step.now c.args.behind.now c.args.found.now c.in-Sizes.place
    c.in-Sizes.made c.named_in.result c.in-Sizes.is c.named_in.ensures (c.read_made.ensures c.args.found.now)
