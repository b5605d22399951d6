-- A take past the limit takes one byte more than the limit.
use Rattle.std.proofs.Common.{◌≡◌, ◌≤◌, ◌+◌, length, arith}
use Rattle.std.proofs.lemmas.List.{length-take}
use Rattle.sail_outside.proofs.Pieces.{going_past}
use Rattle.sail_outside.proofs.reading.read_rest.Goals as goal

pub returns-then-count-room-clause-long : goal.returns-then-count-room-clause-long
returns-then-count-room-clause-long g c =
    let cut : c.in_ok-count.count ≤ c.min.result + 1 =
    omega (arith, c.in_ok-count.ensures.bound, length-take (c.min.result + 1) c.loop-bytes.buffer) in
    let past : length c.loop-bytes.bytes.items + c.in_ok-count.count ≡ c.args.limit + 1 =
    omega (arith, c.loop-bytes.bytes.ok) in
    λ l e. going_past _ _ _ _ _ c.in_ok-count.count c.args.limit past c.loop-bytes.invariant.going c.in_ok-count.ensures.bytes
