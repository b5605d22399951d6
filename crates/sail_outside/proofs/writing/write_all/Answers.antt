-- One more put continues the front; a failed put leaves it.
use Rattle.std.proofs.Common.{arith}
use Rattle.sail_outside.proofs.Pieces.{sent_on}
use Rattle.sail_outside.proofs.writing.write_all.Goals as goal

pub loop-sent-preserved : goal.loop-sent-preserved
loop-sent-preserved g c = record {
  within = omega (arith, c.in_ok-sent.ensures.bound);
  front = sent_on _ _ _ c.args.piece.now c.loop-sent.sent c.in_ok-sent.field-0 c.loop-sent.invariant.front c.in_ok-sent.ensures.sent;
  later = omega arith;
}
