use Rattle.std.proofs.Common.{map}
use Rattle.pattern_leaves.specs.Settings.{around_of}
use Rattle.size_splits.specs.Bodies.{body_read}
use Rattle.size_notes.specs.Bodies.{function_bodies}
use Rattle.size_notes.proofs.Chained.{mapped_next, mapped_end}
use Rattle.size_notes.proofs.models.read_functions.Goals as goal

pub loop-function-preserved : goal.loop-function-preserved
loop-function-preserved c =
    let l = c.loop-function in
    mapped_next (map body_read) (function_bodies (around_of c.args.around.now)) c.args.functions.now l.function-index c.function-item.result l.made
    c.push.new.self c.in_ok-function_bodies.field-0 _ c.loop-function-test.true c.function-item.is c.in_ok-function_bodies.ensures
    c.in_ok-push.ensures.pushed l.invariant

pub returns : goal.returns
returns c =
    let l = c.loop-function in
    mapped_end (map body_read) (function_bodies (around_of c.args.around.now)) c.args.functions.now l.function-index l.made _
    c.loop-function-test.false l.invariant
