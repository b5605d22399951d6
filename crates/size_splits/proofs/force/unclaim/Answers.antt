use Rattle.std.proofs.Common.{◌≤◌, length, sym, arith}
use Rattle.value_indices.proofs.Forced.{unclaimed_in_force, unclaim_none, nothing_removed}
use Rattle.size_splits.proofs.force.unclaim.Goals as goal

pub returns-then-mark-len : goal.returns-then-mark-len
returns-then-mark-len c = λ w h. unclaimed_in_force w _ _ _ _ c.in-Some.mark c.remove.ensures.items c.in-Some.ensures h

pub returns-else-mark-len : goal.returns-else-mark-len
returns-else-mark-len c =
    let past : length c.args.facts.now.items ≤ c.in-Some.mark = omega arith in
    λ w h. unclaimed_in_force w _ _ _ _ c.in-Some.mark (sym (nothing_removed _ c.in-Some.mark past)) c.in-Some.ensures h

pub returns-in_default : goal.returns-in_default
returns-in_default c = λ w h. unclaim_none w _ _ _ c.in_default.ensures h
