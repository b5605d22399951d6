use Rattle.std.proofs.Common.{◌∙◌, sym}
use Rattle.sail_levels.proofs.Counting.{none_open_kept}
use Rattle.sail_levels.proofs.levels.none_open.Goals as goal

pub returns : goal.returns
returns c = c.is_empty.ensures.count ∙ sym (none_open_kept c.args.nesting.now.inside)
