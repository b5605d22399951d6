use Rattle.std.proofs.Common.{◌≡◌, ◌+◌, ◌-◌, ℕ, sym, subst, [], ◌∷◌, true, arith, drop, length, length-drop}
use Rattle.sail_types.specs.declared.numbers.Con.TheVariants as C
use Rattle.sail_core.specs.declared.model.Direction.{Direction}
use Rattle.sail_core.specs.declared.patterns.Arm.{Arm}
use Rattle.sail_core.specs.declared.tree.Core.{Core}
use Rattle.value_indices.specs.Walking.{Written, run, seen}
use Rattle.value_indices.specs.declared.indices.Reading.TheVariants as R
use Rattle.pattern_leaves.specs.Settings.{Around, around_of}
use Rattle.call_arguments.specs.Aims.{aimed}
use Rattle.call_arguments.specs.declared.aims.Aim.TheVariants as Aims
use Rattle.sail_base.specs.declared.place.Place.{Place}
use Rattle.constraint_gen.specs.Functions.{direction_giver}
use Rattle.size_notes.specs.Behind.{found_in, node_of}
use Rattle.size_notes.specs.Bodies.{clause_inside, way_read}
use Rattle.size_notes.specs.Reading.{IsAtRest}
use Rattle.size_notes.proofs.Walked.{alone_rest, both_next, both_end}
use Rattle.size_notes.proofs.mappings.read_both.Goals as goal

way_rest : (place : Place) (around : Around) (m : Direction) (behind : ℕ) (arm : Arm) (core : Core) (w v : Written) → IsAtRest w
    → v ≡ run (way_read place around m behind arm core) w → IsAtRest v
way_rest place around m behind arm core w v rest walked =
    subst (λ (u : Written). IsAtRest u) (sym walked) (alone_rest (found_in (node_of around.numbers core))
    (clause_inside (C.Truth true) place (direction_giver m behind) around (m.parameter ∷ []) (aimed Aims.Due (R.Of m.result [] [])) true arm core) w
    rest)

pub read_way-requires-in-loop-at : goal.read_way-requires-in-loop-at
read_way-requires-in-loop-at c =
    let l = c.loop-at in
    way_rest c.args.place (around_of c.args.around.now) c.args.forwards.now.direction.now _ c.index-arms-at.result c.index-cores-at.result
    (seen l.body) (seen c.read_way.new.body) l.invariant.rest c.in_ok-read_way.ensures

pub loop-at-preserved : goal.loop-at-preserved
loop-at-preserved c =
    let l = c.loop-at in
    let around = around_of c.args.around.now in
    let first = c.args.forwards.now in
    let second = c.args.backwards.now in
    let behind : length first.arms.now - l.at - 1 ≡ length (drop (l.at + 1) first.arms.now) = omega (arith, length-drop (l.at + 1) first.arms.now) in
    let before : length second.arms.now - l.at - 1 ≡ length (drop (l.at + 1) second.arms.now) = omega (arith, length-drop (l.at + 1) second.arms.now) in
    let w = seen l.body in
    let v = seen c.read_way.new.body in
    let u = seen c.read_way-in-loop-at.new.body in
    let rest = way_rest c.args.place around first.direction.now _ c.index-arms-at.result c.index-cores-at.result w v l.invariant.rest
    c.in_ok-read_way.ensures in
    record {
      rest = way_rest c.args.place around second.direction.now _ c.index-backs-at.result c.index-givens-at.result v u rest c.in_ok-read_way-2.ensures;
      walked = both_next c.args.place around first.direction.now second.direction.now first.arms.now first.cores.now second.arms.now
          second.cores.now l.at c.index-arms-at.result c.index-cores-at.result c.index-backs-at.result c.index-givens-at.result
          (omega arith) (omega arith) (omega arith) (omega arith) c.index-arms-at.is c.index-cores-at.is c.index-backs-at.is
          c.index-givens-at.is w v u _ _ behind before c.in_ok-read_way.ensures c.in_ok-read_way-2.ensures _ l.invariant.walked;
    }

pub returns : goal.returns
returns c =
    let l = c.loop-at in
    let first = c.args.forwards.now in
    let second = c.args.backwards.now in
    let at : l.at ≡ c.common_count-count.result = omega (arith, c.loop-at-test.false, l.auto.at-end) in
    both_end c.args.place (around_of c.args.around.now) first.direction.now second.direction.now first.arms.now first.cores.now second.arms.now
    second.cores.now l.at (omega (arith, at, c.common_count-count.ensures)) (seen l.body) _ l.invariant.walked
