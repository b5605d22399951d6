use Rattle.std.proofs.Common.{◌≡◌, ◌+◌, ◌-◌, arith, drop, length, length-drop}
use Rattle.value_indices.specs.Walking.{run, seen}
use Rattle.pattern_leaves.specs.Settings.{around_of}
use Rattle.function_notes.specs.Functions.{both_walk}
use Rattle.function_notes.proofs.Walked.{both_walked, sides_end}
use Rattle.function_notes.proofs.mappings.walk_both.Goals as goal

pub loop-at-preserved : goal.loop-at-preserved
loop-at-preserved c =
    let l = c.loop-at in
    let first = c.args.forwards.now in
    let second = c.args.backwards.now in
    let behind : length first.arms.now - l.at - 1 ≡ length (drop (l.at + 1) first.arms.now) = omega (arith, length-drop (l.at + 1) first.arms.now) in
    let before : length second.arms.now - l.at - 1 ≡ length (drop (l.at + 1) second.arms.now) = omega (arith, length-drop (l.at + 1) second.arms.now) in
    both_walked c.args.place (around_of c.args.around.now) first.direction.now second.direction.now first.arms.now first.bodies.now second.arms.now
    second.bodies.now l.at c.index-arms-at.result c.index-bodies-at.result c.index-backs-at.result c.index-givens-at.result
    (omega arith) (omega arith) (omega arith) (omega arith) c.index-arms-at.is c.index-bodies-at.is c.index-backs-at.is c.index-givens-at.is
    (seen l.walking) (seen c.walk_direction.new.walking) (seen c.walk_direction-in-loop-at.new.walking) _ _ behind before
    c.in_ok-walk_direction.ensures
    c.in_ok-walk_direction-2.ensures _ l.invariant

pub returns : goal.returns
returns c =
    let l = c.loop-at in
    let around = around_of c.args.around.now in
    let first = c.args.forwards.now in
    let second = c.args.backwards.now in
    let at : l.at ≡ c.common_count-count.result = omega (arith, c.loop-at-test.false, l.auto.at-end) in
    sides_end c.args.place around first.direction.now second.direction.now first.arms.now first.bodies.now second.arms.now second.bodies.now l.at
    c.common_count-count.result c.have_clauses-all.result c.end_clauses.result (seen l.walking) (seen c.end_clauses.new.walking)
    (run (both_walk c.args.place around first.direction.now second.direction.now first.arms.now first.bodies.now second.arms.now second.bodies.now)
    (seen c.args.walking.now))
    c.common_count-count.ensures at c.have_clauses-all.ensures l.invariant c.end_clauses.ensures
