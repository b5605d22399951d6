use Rattle.std.proofs.Common.{◌≡◌, ◌+◌, ◌-◌, ap, arith, drop, length, length-drop}
use Rattle.sail_core.specs.declared.tree.Giver.TheVariants as Gives
use Rattle.value_indices.specs.Walking.{run, seen}
use Rattle.pattern_leaves.specs.Settings.{around_of}
use Rattle.function_notes.specs.Functions.{clauses_walk}
use Rattle.function_notes.proofs.Walked.{clause_walked, arms_end}
use Rattle.function_notes.proofs.clauses.walk_arms.Goals as goal

pub loop-at-preserved : goal.loop-at-preserved
loop-at-preserved c =
    let l = c.loop-at in
    let common = c.args.common.now in
    let behind : length c.args.arms.now - l.at - 1 ≡ length (drop (l.at + 1) c.args.arms.now) = omega (arith, length-drop (l.at + 1) c.args.arms.now) in
    clause_walked common.place common.number (around_of c.args.around.now) common.types.now common.aim.now common.is_declared c.args.once.now
    c.args.arms.now
    c.args.bodies.now l.at c.index-arms-at.result c.index-bodies-at.result c.due_at-due.result.now (seen l.walking) (seen c.walk_written.new.walking)
    (omega arith) (omega arith) c.index-arms-at.is c.index-bodies-at.is c.due_at-due.ensures _
    (ap (λ n. Gives.Arm common.number n) behind) c.in_ok-walk_written.ensures.walked _ l.invariant

pub returns : goal.returns
returns c =
    let l = c.loop-at in
    let common = c.args.common.now in
    let around = around_of c.args.around.now in
    let arms = c.args.arms.now in
    let bodies = c.args.bodies.now in
    let at : l.at ≡ c.lesser-count.result = omega (arith, c.loop-at-test.false, l.auto.at-end) in
    arms_end common.place common.number around common.types.now common.aim.now common.is_declared c.args.once.now arms bodies l.at
    c.lesser-count.result
    c.are_both-all.result c.end_clauses.result (seen l.walking) (seen c.end_clauses.new.walking)
    (run (clauses_walk common.place common.number around common.types.now c.args.once.now common.aim.now common.is_declared arms bodies)
    (seen c.args.walking.now))
    c.lesser-count.ensures at c.are_both-all.ensures l.invariant c.end_clauses.ensures
