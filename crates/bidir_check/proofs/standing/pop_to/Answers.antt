use Rattle.std.proofs.Common.{◌≡◌, length, take, ap, ◌∙◌, arith}
use Rattle.std.proofs.lemmas.List.{length-take-le}
use Rattle.bidir_check.proofs.Steps.{popped}
use Rattle.bidir_check.proofs.standing.pop_to.Goals as goal

pub pop-requires : goal.pop-requires
pop-requires g c =
    let l = c.loop-count in
    let all = g.E.Entail.facts c.args.entail.now in
    let some : length (g.E.Entail.facts l.entail) ≡ l.count = ap length l.invariant.facts ∙ length-take-le l.count all (omega arith) in omega arith

pub loop-count-preserved : goal.loop-count-preserved
loop-count-preserved g c =
    let l = c.loop-count in
    record {
      facts = popped (g.E.Entail.facts c.args.entail.now) _ _ l.count l.invariant.facts (omega arith) (omega arith) c.pop.ensures.left;
      within = omega arith;
      left = omega arith;
    }

pub returns : goal.returns
returns g c =
    let l = c.loop-count in
    let at : l.count ≡ c.args.left = omega arith in l.invariant.facts ∙ ap (λ n. take n (g.E.Entail.facts c.args.entail.now)) at
