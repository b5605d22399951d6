-- the front of the piece is sent, and the count of faults didn't fall
use Rattle.std.proofs.Common.{length, take, ◌-◌, ◌≤◌}
use Rattle.sail_outside.specs.Bytes.{Sent}
use Rattle.sail_outside.proofs.writing.write_all.Given as goal

abbrev pub invariant-loop-sent : goal.invariant-loop-sent
invariant-loop-sent g l = record {
  within : l.sent ≤ length l.piece;
  front : Sent (g.K.Sink.given l.fn.sink) (take l.sent l.piece) (g.K.Sink.given l.sink);
  later : g.K.Sink.faults l.fn.sink ≤ g.K.Sink.faults l.sink;
}

abbrev pub decreases-loop-sent : goal.decreases-loop-sent
decreases-loop-sent g l = length l.piece - l.sent
