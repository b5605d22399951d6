use Rattle.wide_types.proofs.Turns.{found}
use Rattle.pattern_leaves.specs.Settings.{around_of}
use Rattle.expression_steps.specs.Targets.{part_late}
use Rattle.expression_steps.proofs.LateParts.{known_there}
use Rattle.expression_steps.proofs.late.known_late.Goals as goal

pub returns : goal.returns
returns c =
    let ways = part_late c.args.place c.args.suffixes.now (around_of c.args.around.now) c.args.numbers.now c.args.held.now in
    found c.into_facts.result _ _ c.into_facts.ensures (known_there c.args.from ways _ _ c.new-aside.ensures c.in_ok-part_late.ensures.walked)
