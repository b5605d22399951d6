use Rattle.std.proofs.Common.{◌-◌, ◌∙◌, ap, sym, refl, arith}
use Rattle.value_indices.specs.Walking.{seen}
use Rattle.expression_notes.specs.Claims.{unclaimed_times}
use Rattle.expression_notes.proofs.BlockSteps.{all_unclaimed, one_unclaimed}
use Rattle.expression_notes.proofs.statements.end_block.Goals as goal

pub loop-left-preserved : goal.loop-left-preserved
loop-left-preserved c =
    ap (unclaimed_times (c.loop-left.left - 1)) c.in_ok-unclaim.ensures
    ∙ one_unclaimed c.loop-left.left (seen c.loop-left.walking) (omega (arith, c.loop-left-test.true)) ∙ c.loop-left.invariant

pub returns : goal.returns
returns c =
    let none = all_unclaimed c.loop-left.left (seen c.loop-left.walking) (omega (arith, c.loop-left-test.false)) in
    record { value = refl; walked = sym none ∙ c.loop-left.invariant }
