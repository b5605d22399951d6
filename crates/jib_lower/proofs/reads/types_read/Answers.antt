use Rattle.std.proofs.Common.{◌∙◌, ap, map}
use Rattle.lowered_steps.specs.Setting.{nodes_in}
use Rattle.jib_lower.specs.Reads.{read_of, with_names}
use Rattle.jib_lower.proofs.reads.types_read.Goals as goal

pub returns : goal.returns
returns c =
    c.in_ok-push_names.ensures
    ∙ ap (with_names (nodes_in c.args.setting.now) (map read_of c.args.reads.now) (map read_of c.args.reads.now)) c.new-told.ensures
