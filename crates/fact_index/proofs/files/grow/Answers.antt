use Rattle.std.proofs.Common.{◌≡◌, [], ◌∷◌, ◌++◌, length, length-append, ap, ◌∙◌, arith}
use Rattle.std.specs.Prelude.{slice_index_or}
use Rattle.fact_index.proofs.Filing.{one_empty}
use Rattle.fact_index.proofs.files.grow.Goals as goal

pub loop-at-preserved : goal.loop-at-preserved
loop-at-preserved c =
    let l = c.loop-at in
    let old = l.lists.items in
    let more : c.push.new.self.items ≡ old ++ [] ∷ [] = c.in_ok-push.ensures.items ∙ ap (λ x. old ++ x ∷ []) c.new.ensures in
    record {
      count = (let a = ap length more in let b = length-append old ([] ∷ []) in let n = l.invariant.count in omega (arith, a, b, n));
      same = λ other. ap (λ ls. slice_index_or ls other []) more ∙ (one_empty old other ∙ l.invariant.same other);
    }
