use Rattle.std.proofs.Common.{◌≡◌, ◌+◌, ◌-◌, refl, sym, subst, arith, drop, length, length-drop}
use Rattle.sail_core.specs.declared.tree.Giver.TheVariants as Gives
use Rattle.value_indices.specs.Walking.{Written, seen}
use Rattle.pattern_leaves.specs.Settings.{around_of}
use Rattle.size_notes.specs.Behind.{found_in, node_of}
use Rattle.size_notes.specs.Bodies.{arms_read, clause_inside, clause_read, sized_body}
use Rattle.size_notes.specs.Reading.{IsAtRest}
use Rattle.size_notes.proofs.Walked.{alone_rest, pair_next, pair_end}
use Rattle.size_notes.proofs.clauses.read_arms.Goals as goal

pub loop-at-preserved : goal.loop-at-preserved
loop-at-preserved c =
    let l = c.loop-at in
    let con = c.args.constraint.now in
    let common = c.args.common.now in
    let around = around_of c.args.around.now in
    let ts = common.types.now in
    let arm = c.index-arms-at.result in
    let core = c.index-cores-at.result in
    let walked = c.in_ok-read_clause.ensures in
    let behind : length c.args.arms.now - l.at - 1 ≡ length (drop (l.at + 1) c.args.arms.now) = omega (arith, length-drop (l.at + 1) c.args.arms.now) in
    record {
      rest = subst (λ (w : Written). IsAtRest w) (sym walked) (alone_rest (found_in (node_of around.numbers (sized_body common.is_declared core)))
          (clause_inside con common.place (Gives.Arm common.number (length c.args.arms.now - l.at - 1)) around ts common.aim.now
          common.is_declared arm core) (seen l.body) l.invariant.rest);
      walked = pair_next (λ n. clause_read con common.place (Gives.Arm common.number n) around ts common.aim.now common.is_declared)
          (arms_read con common.place common.number around ts common.aim.now common.is_declared) (λ a xs b ys. refl) (λ ys. refl) (λ a xs. refl)
          c.args.arms.now c.args.cores.now l.at arm core (seen l.body) (seen c.read_clause.new.body) _ (omega arith) (omega arith)
          c.index-arms-at.is c.index-cores-at.is (length c.args.arms.now - l.at - 1) behind walked l.invariant.walked;
    }

pub returns : goal.returns
returns c =
    let l = c.loop-at in
    let con = c.args.constraint.now in
    let common = c.args.common.now in
    let around = around_of c.args.around.now in
    let ts = common.types.now in
    let at : l.at ≡ c.lesser-count.result = omega (arith, c.loop-at-test.false, l.auto.at-end) in
    pair_end (λ n. clause_read con common.place (Gives.Arm common.number n) around ts common.aim.now common.is_declared)
    (arms_read con common.place common.number around ts common.aim.now common.is_declared) (λ a xs b ys. refl) (λ ys. refl) (λ a xs. refl)
    c.args.arms.now c.args.cores.now l.at (seen l.body) _ (omega (arith, at, c.lesser-count.ensures)) l.invariant.walked
