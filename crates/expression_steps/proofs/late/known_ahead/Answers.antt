use Rattle.wide_types.proofs.Turns.{found}
use Rattle.pattern_leaves.specs.Settings.{around_of}
use Rattle.expression_forms.specs.Spots.{Spot, spot_of}
use Rattle.expression_steps.proofs.LateParts.{known_there}
use Rattle.expression_steps.proofs.late.known_ahead.Goals as goal

pub returns : goal.returns
returns c =
    found c.into_facts.result _ _ c.into_facts.ensures
    (known_there c.args.before (Spot.read (spot_of (around_of c.args.around.now) c.args.base.now)) _ _ c.new-aside.ensures c.in_ok-read.ensures.walked)
