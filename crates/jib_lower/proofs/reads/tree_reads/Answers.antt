use Rattle.std.proofs.Common.{◌∙◌, ◌++◌, ap, map}
use Rattle.std.proofs.lemmas.Result.{IfOk-weaker}
use Rattle.jib_lower.specs.Reads.{read_in, read_of, types_read}
use Rattle.jib_lower.proofs.reads.tree_reads.Goals as goal

pub returns : goal.returns
returns c =
    IfOk-weaker c.types_read.result _ _
    (λ told e. e ∙ ap (types_read c.args.setting.now.bodies.now)
    (ap (map read_of) c.as_slice-reads.ensures ∙ c.in_ok-list_read.ensures ∙ ap (λ rs. map read_of rs ++ read_in c.args.tree.now) c.new-found.ensures))
    c.types_read.ensures
