use Rattle.std.proofs.Common.{◌≡◌, arith, length, subst}
use Rattle.jib_lower.specs.Cycles.{AllEven, Joined}
use Rattle.jib_lower.proofs.Falling.{all_even_next}
use Rattle.jib_lower.proofs.cycles.add_rings.Goals as goal

pub loop-at-preserved : goal.loop-at-preserved
loop-at-preserved c =
    all_even_next c.args.functions.now c.loop-at.at c.args.graph.now c.loop-at.graph c.join_behind.new.graph c.loop-at.invariant c.in_ok-join_behind.ensures

pub returns : goal.returns
returns c =
    let all : c.loop-at.at ≡ length c.args.functions.now = omega arith in
    subst (λ k. Joined (AllEven c.args.functions.now k) c.args.graph.now c.loop-at.graph) all c.loop-at.invariant
