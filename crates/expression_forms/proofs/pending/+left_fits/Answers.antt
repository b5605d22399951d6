use Rattle.std.proofs.Common.{◌∙◌, map, sym}
use Rattle.value_fits.proofs.EachPair.{first_said, joined_nothing}
use Rattle.pattern_leaves.specs.Settings.{around_of}
use Rattle.expression_forms.specs.Spots.{each_left, left_of}
use Rattle.expression_forms.proofs.Tuples.{left_all, left_more}
use Rattle.expression_forms.proofs.pending.+left_fits.Goals as goal

pub fits_each-loop-left-init : goal.fits_each-loop-left-init
fits_each-loop-left-init t c =
    first_said _ c.args.next (each_left (map (left_of (around_of c.args.around.now)) c.args.lefts.now)) c.nothing-made.ensures

pub fits_each-loop-left-preserved : goal.fits_each-loop-left-preserved
fits_each-loop-left-preserved t c =
    left_more (around_of c.args.around.now) c.loop-left.made _ _ c.args.lefts.now c.loop-left.left-index c.left-item.result c.loop-left-test.true
    c.left-item.is c.in_ok-more.ensures c.in_ok-made.ensures
    ∙ c.loop-left.invariant

pub fits_each-returns : goal.fits_each-returns
fits_each-returns t c =
    let l = c.loop-left in
    sym (joined_nothing l.made) ∙ sym (left_all (around_of c.args.around.now) l.made c.args.lefts.now l.left-index c.loop-left-test.false) ∙ l.invariant
