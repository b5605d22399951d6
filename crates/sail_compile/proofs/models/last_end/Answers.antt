use Rattle.std.proofs.Common.{sym, ◌∙◌, arith}
use Rattle.sail_parse_def.proofs.Refusals.{end_next, end_last}
use Rattle.sail_compile.proofs.models.last_end.Goals as goal

pub loop-file-preserved : goal.loop-file-preserved
loop-file-preserved c = end_next c.args.files.now c.loop-file.file-index _ c.loop-file.end c.loop-file-test.true c.file-item.is ∙
    c.loop-file.invariant

pub returns : goal.returns
returns c = sym (end_last c.args.files.now c.loop-file.file-index c.loop-file.end (omega arith)) ∙ c.loop-file.invariant
