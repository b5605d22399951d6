use Rattle.std.proofs.Common.{arith, refl, ◌-◌}
use Rattle.farkas.proofs.Marking.{marked_more}
use Rattle.farkas.proofs.pruning.marked.Goals as goal

pub loop-left-preserved : goal.loop-left-preserved
loop-left-preserved c = record {
  within = omega arith;
  same = marked_more c.args.count c.args.steps.now c.loop-left.left
      (c.loop-left.left - 1) _ c.index-steps-left.result c.loop-left.marks c.mark_rows.new.marks _ (omega arith) c.index-steps-left.is
      (omega arith) refl c.mark_rows.ensures c.loop-left.invariant.same;
}
