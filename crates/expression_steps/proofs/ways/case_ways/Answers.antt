use Rattle.std.proofs.Common.{◌≡◌, ◌∙◌, ◌+◌, ◌-◌, ℕ, ap, refl, sym, append-nil, arith, drop, length, length-drop}
use Rattle.sail_core.specs.declared.tree.Giver.TheVariants as Gives
use Rattle.expression_steps.specs.Coded.{way_cores, ways_seen}
use Rattle.expression_steps.specs.Expressions.{part}
use Rattle.expression_steps.specs.Statements.{case_way}
use Rattle.expression_steps.proofs.Meeting.{cases_left, cases_pushed, cores_left, cores_pushed}
use Rattle.expression_steps.proofs.ways.case_ways.Goals as goal

pub loop-index-init : goal.loop-index-init
loop-index-init c = record { ways = λ around scope aim. refl; cores = sym (append-nil (way_cores c.args.ways.now)) }

pub loop-index-preserved : goal.loop-index-preserved
loop-index-preserved c = record {
  ways = λ around scope aim.
      let behind : length c.args.arms.now - c.loop-index.index - 1 ≡ length (drop (c.loop-index.index + 1) c.args.arms.now) = omega (
        arith,
        length-drop (c.loop-index.index + 1) c.args.arms.now,
      ) in
      cases_pushed c.args.place c.args.number around scope aim c.args.value.now c.args.arms.now c.args.bodies.now c.loop-index.index
      c.index-arms-index.result c.index-bodies-index.result c.loop-index.ways c.push.new.self _ (omega arith) c.index-arms-index.is (omega arith)
      c.index-bodies-index.is c.in_ok-push.ensures.pushed
      (ap (λ (n : ℕ). case_way (Gives.Arm c.args.number n) c.args.place c.index-arms-index.result (part c.index-bodies-index.result) around scope aim
      c.args.value.now) behind)
      ∙ c.loop-index.invariant.ways around scope aim;
  cores = cores_pushed c.args.bodies.now c.loop-index.index c.index-bodies-index.result (way_cores c.args.ways.now) c.loop-index.ways c.push.new.self _
      (omega arith) c.index-bodies-index.is c.in_ok-push.ensures.pushed refl c.loop-index.invariant.cores;
}

pub returns-clause-ways : goal.returns-clause-ways
returns-clause-ways c = λ around scope aim.
    cases_left c.args.place c.args.number around scope aim c.args.value.now c.args.arms.now c.args.bodies.now c.loop-index.index
    (ways_seen around scope aim c.loop-index.ways) (omega arith)
    ∙ c.loop-index.invariant.ways around scope aim

pub returns-clause-cores : goal.returns-clause-cores
returns-clause-cores c =
    cores_left c.args.arms.now c.args.bodies.now c.loop-index.index (way_cores c.args.ways.now) (way_cores c.loop-index.ways) (omega arith)
    (omega arith) c.loop-index.invariant.cores
