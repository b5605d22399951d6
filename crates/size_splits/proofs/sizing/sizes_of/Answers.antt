use Rattle.std.proofs.Common.{◌<◌, length, map, arith}
use Rattle.size_splits.specs.Bodies.{body_read}
use Rattle.size_splits.specs.Sizing.{sizes_from}
use Rattle.size_splits.proofs.Rounds.{sizes_more}
use Rattle.size_splits.proofs.sizing.sizes_of.Goals as goal

pub loop-variable-preserved : goal.loop-variable-preserved
loop-variable-preserved c =
    let types = c.args.types.now in
    let sizing = c.args.sizing.now in
    let f = c.args.function.now in
    let bs = map body_read c.args.bodies.now in
    let within : c.loop-variable.variable < length f.variables = omega (arith, c.in-Ok.ensures) in
    sizes_more types sizing f bs (length f.variables) c.loop-variable.variable c.loop-variable.made
    (sizes_from types sizing f bs (length f.variables) 0) c.loop-variable.invariant c.in_ok-is.is' c.push.new.self within c.in_ok-is.ensures
    c.in_ok-push.ensures.pushed
