use Rattle.std.proofs.Common.{[], length, get_or, ap, ◌∙◌, arith}
use Rattle.pattern_leaves.specs.Settings.{around_of}
use Rattle.constraint_gen.specs.Models.{around_opening, around_with}
use Rattle.size_notes.specs.Bodies.{opening_bodies}
use Rattle.size_notes.proofs.Chained.{opening_next, openings_read}
use Rattle.size_notes.proofs.models.read_openings.Goals as goal

pub loop-at-preserved : goal.loop-at-preserved
loop-at-preserved c =
    let l = c.loop-at in
    let core = c.args.core.now in
    let one = c.index-openings-at.result in
    let same = c.as_slice-openings.ensures in
    opening_next (around_with core []) core.openings l.at one l.made c.push.new.self c.in_ok-read_opening.field-0
    (opening_bodies (around_with core []) core.openings) (around_of c.around_opening-around.result) (omega (arith, ap length same))
    (c.index-openings-at.is ∙ ap (λ os. get_or os l.at one) same) c.around_opening-around.ensures c.in_ok-read_opening.ensures
    c.in_ok-push.ensures.pushed l.invariant

pub returns : goal.returns
returns c =
    let l = c.loop-at in
    let core = c.args.core.now in
    openings_read (around_opening core l.at) core.openings l.at l.made (opening_bodies (around_with core []) core.openings)
    (omega (arith, ap length c.as_slice-openings.ensures)) l.invariant
