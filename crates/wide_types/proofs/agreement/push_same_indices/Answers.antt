use Rattle.std.proofs.Common.{◌≡◌, ◌+◌, ◌<◌, ◌∷◌, length, drop, ap, sym, ◌∙◌, arith}
use Rattle.std.proofs.lemmas.List.{drop_more}
use Rattle.wide_types.specs.Widening.{same_index, same_indices}
use Rattle.wide_types.proofs.Agreed.{owed_more}
use Rattle.wide_types.proofs.agreement.push_same_indices.Goals as goal

pub loop-index-preserved : goal.loop-index-preserved
loop-index-preserved c =
    let m = c.args.before in
    let is = c.args.first.now in
    let js = c.args.others.now in
    let i = c.loop-index.index in
    let x = c.index-first-index.result in
    let y = c.index-others-index.result in
    let within : i < length js = omega arith in
    let rest : drop i is ≡ x ∷ drop (i + 1) is = drop_more is i x c.loop-index-test.true ∙ ap (λ z. z ∷ drop (i + 1) is) (sym c.index-first-index.is) in
    let others : drop i js ≡ y ∷ drop (i + 1) js = drop_more js i y within ∙ ap (λ z. z ∷ drop (i + 1) js) (sym c.index-others-index.is) in
    owed_more c.loop-index.conditions c.push_same_index.new.conditions (same_index m x y) (same_indices m (drop (i + 1) is) (drop (i + 1) js))
    (same_indices m (drop i is) (drop i js)) c.in_ok-push_same_index.ensures (λ k. same_indices m (rest k) (others k)) ∙ c.loop-index.invariant
