use Rattle.std.proofs.Common.{sym}
use Rattle.value_indices.specs.Walking.{seen}
use Rattle.pattern_leaves.specs.Settings.{around_of}
use Rattle.constraint_gen.proofs.Lets.{opening_found}
use Rattle.constraint_gen.proofs.models.walk_opening_at.Goals as goal

pub returns-in-Some : goal.returns-in-Some
returns-in-Some c =
    opening_found c.walk_opening.result c.args.core.now c.args.at _ (around_of c.around_opening-around.result) (seen c.args.walking.now)
    (seen c.walk_opening.new.walking) (sym c.in-Some.ensures.item) c.around_opening-around.ensures c.walk_opening.ensures
