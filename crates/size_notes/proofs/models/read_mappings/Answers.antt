use Rattle.std.proofs.Common.{◌≡◌, ◌*◌, ◌+◌, ◌++◌, drop, map, ap, ◌∙◌, arith}
use Rattle.pattern_leaves.specs.Settings.{around_of}
use Rattle.size_splits.specs.Bodies.{body_read}
use Rattle.size_notes.specs.Bodies.{mapping_bodies}
use Rattle.size_notes.proofs.Chained.{pair_read, pairs_read}
use Rattle.size_notes.proofs.models.read_mappings.Goals as goal

pub loop-pair-preserved : goal.loop-pair-preserved
loop-pair-preserved c =
    let l = c.loop-pair in
    let around = around_of c.args.around.now in
    let ds = c.args.directions.now in
    let k = 2 * l.pair in
    let two : 2 * (l.pair + 1) ≡ k + 2 = omega arith in
    ap (λ i. map body_read c.push.new.self ++ mapping_bodies around (drop i ds)) two
    ∙ pair_read around ds k c.index-directions-at.result c.index-directions-behind.result l.made c.push.new.self c.in_ok-read_mapping.field-0 _
    (omega arith) c.index-directions-at.is c.index-directions-behind.is c.in_ok-read_mapping.ensures c.in_ok-push.ensures.pushed l.invariant

pub returns : goal.returns
returns c =
    let l = c.loop-pair in
    pairs_read (around_of c.args.around.now) c.args.directions.now (2 * l.pair) l.made _ (omega arith) l.invariant
