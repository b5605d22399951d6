use Rattle.std.proofs.Common.{◌≡◌, ◌+◌, ◌∷◌, drop, ap, sym, ◌∙◌}
use Rattle.std.proofs.lemmas.List.{drop_more, drop_all}
use Rattle.value_indices.specs.Walking.{seen}
use Rattle.wide_types.specs.Widening.{kept_each, kept_index}
use Rattle.wide_types.proofs.Turns.{each_more, each_none, made_more, walked_more, made_all, walked_all}
use Rattle.wide_types.proofs.kept.kept_each.Goals as goal

pub loop-number-preserved : goal.loop-number-preserved
loop-number-preserved c =
    let m = c.args.before in
    let all = c.args.numbers.now in
    let i = c.loop-number.number-index in
    let n = c.number-item.result in
    let rest : drop i all ≡ n ∷ drop (i + 1) all = drop_more all i n c.loop-number-test.true ∙ ap (λ x. x ∷ drop (i + 1) all) (sym c.number-item.is) in
    let is = ap (kept_each m) rest ∙ each_more m n (drop (i + 1) all) in
    record {
      value = made_more (kept_index m n) (kept_each m (drop (i + 1) all)) (kept_each m (drop i all)) (seen c.loop-number.walked)
          (seen c.kept_index.new.walked) c.loop-number.made c.push.new.self c.in_ok-kept_index.field-0 is c.in_ok-push.ensures.pushed
          c.in_ok-kept_index.ensures.value c.in_ok-kept_index.ensures.walked ∙ c.loop-number.invariant.value;
      walked = walked_more (kept_index m n) (kept_each m (drop (i + 1) all)) (kept_each m (drop i all)) (seen c.loop-number.walked)
          (seen c.kept_index.new.walked) is c.in_ok-kept_index.ensures.walked ∙ c.loop-number.invariant.walked;
    }

pub returns : goal.returns
returns c =
    let m = c.args.before in
    let rest = kept_each m (drop c.loop-number.number-index c.args.numbers.now) in
    let none = ap (kept_each m) (drop_all c.loop-number.number-index c.args.numbers.now c.loop-number-test.false) ∙ each_none m in
    record {
      value = sym (made_all rest (seen c.loop-number.walked) c.loop-number.made none) ∙ c.loop-number.invariant.value;
      walked = sym (walked_all rest (seen c.loop-number.walked) none) ∙ c.loop-number.invariant.walked;
    }
