use Rattle.std.proofs.Common.{◌∙◌, arith}
use Rattle.std.proofs.lemmas.List.{take_all}
use Rattle.bidir_check.proofs.Steps.{pushed}
use Rattle.bidir_check.proofs.standing.push_from.Goals as goal

pub loop-place-preserved : goal.loop-place-preserved
loop-place-preserved g c =
    let l = c.loop-place in
    record {
      facts = pushed c.args.facts.now _ _ l.place c.index-facts-place.result c.in_ok-copy_con.field-0 (omega arith) c.index-facts-place.is
          c.in_ok-copy_con.ensures l.invariant.facts c.in_ok-push.ensures.pushed;
      within = omega arith;
    }

pub returns : goal.returns
returns g c = let l = c.loop-place in l.invariant.facts ∙ take_all l.place c.args.facts.now (omega arith)
