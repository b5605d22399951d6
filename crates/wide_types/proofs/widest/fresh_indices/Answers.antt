use Rattle.std.proofs.Common.{◌≡◌, ◌+◌, ◌∷◌, drop, ap, sym, ◌∙◌}
use Rattle.std.proofs.lemmas.List.{drop_more, drop_all}
use Rattle.value_indices.specs.Walking.{seen}
use Rattle.wide_types.specs.Widening.{fresh_indices}
use Rattle.wide_types.proofs.Turns.{fresh_more, fresh_walked, made_all, walked_all}
use Rattle.wide_types.proofs.widest.fresh_indices.Goals as goal

pub loop-parameter-preserved : goal.loop-parameter-preserved
loop-parameter-preserved c =
    let all = c.args.parameters.now in
    let i = c.loop-parameter.parameter-index in
    let p = c.parameter-item.result in
    let rest : drop i all ≡ p ∷ drop (i + 1) all = drop_more all i p c.loop-parameter-test.true ∙ ap (λ x. x ∷ drop (i + 1) all) (sym c.parameter-item.is) in
    record {
      value = fresh_more p (drop (i + 1) all) (drop i all) (seen c.loop-parameter.walked) (seen c.push_fresh_index.new.walked) c.loop-parameter.made
          c.push_fresh_index.new.indices rest c.in_ok-push_fresh_index.ensures.indices c.in_ok-push_fresh_index.ensures.walked
          ∙ c.loop-parameter.invariant.value;
      walked = fresh_walked p (drop (i + 1) all) (drop i all) (seen c.loop-parameter.walked) (seen c.push_fresh_index.new.walked) rest
          c.in_ok-push_fresh_index.ensures.walked ∙ c.loop-parameter.invariant.walked;
    }

pub returns : goal.returns
returns c =
    let all = c.args.parameters.now in
    let none = ap fresh_indices (drop_all c.loop-parameter.parameter-index all c.loop-parameter-test.false) in
    record {
      value = sym (made_all (fresh_indices (drop c.loop-parameter.parameter-index all)) (seen c.loop-parameter.walked) c.loop-parameter.made none)
          ∙ c.loop-parameter.invariant.value;
      walked = sym (walked_all (fresh_indices (drop c.loop-parameter.parameter-index all)) (seen c.loop-parameter.walked) none)
          ∙ c.loop-parameter.invariant.walked;
    }
