use Rattle.std.proofs.Common.{◌∙◌, ap, sym}
use Rattle.lowered_pieces.specs.Arms.{step_fits}
use Rattle.lowered_steps.specs.Setting.{crosses_for, reads_at, size_for}
use Rattle.lowered_ends.proofs.able.is_step.Goals as goal

pub returns-in-Names : goal.returns-in-Names
returns-in-Names c =
    c.is_unread.ensures
    ∙ ap (step_fits (size_for c.args.setting.now) (crosses_for c.args.setting.now) (reads_at c.args.setting.now.reads.now)) (sym c.in-Names.is)

pub returns-in-Sees : goal.returns-in-Sees
returns-in-Sees c =
    c.is_crossed.ensures
    ∙ ap (step_fits (size_for c.args.setting.now) (crosses_for c.args.setting.now) (reads_at c.args.setting.now.reads.now)) (sym c.in-Sees.is)
