use Rattle.std.proofs.Common.{◌∙◌, ◌<◌, ◌≤◌, length, map, arith}
use Rattle.size_splits.specs.Bodies.{bodies_read, body_read}
use Rattle.size_splits.specs.Sizing.{sizes_from, sizing_again}
use Rattle.size_splits.proofs.Rounds.{again_more, again_stops}
use Rattle.size_splits.proofs.sizing.sizing_again.Goals as goal

pub loop-at-preserved : goal.loop-at-preserved
loop-at-preserved c =
    let types = c.args.types.now in
    let fs = c.args.functions.now in
    let bss = c.args.bodies.now in
    let l = c.loop-at in
    let f = c.index-functions-at.result in
    let within : l.at < length fs = omega arith in
    let inside : l.at < length bss = omega arith in
    again_more types fs bss l.at f c.index-bodies-at.result l.found c.put_sizes.new.sizing
    (sizing_again types c.args.sizing.now fs (bodies_read bss)) c.in_ok-sizes.sizes within inside c.index-functions-at.is c.index-bodies-at.is
    (c.in_ok-sizes.ensures ∙ (λ j. sizes_from types (c.as_slice-now.ensures j) f (map body_read (c.as_slice.ensures j)) (length f.variables) 0))
    c.in_ok-put_sizes.ensures l.invariant

pub returns-then-at-bodies : goal.returns-then-at-bodies
returns-then-at-bodies c =
    let types = c.args.types.now in
    let fs = c.args.functions.now in
    let bss = c.args.bodies.now in
    let past : length bss ≤ c.loop-at.at = omega arith in
    again_stops types fs bss c.loop-at.at c.loop-at.found (sizing_again types c.args.sizing.now fs (bodies_read bss)) c.loop-at.invariant past
