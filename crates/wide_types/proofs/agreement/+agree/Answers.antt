use Rattle.std.proofs.Common.{◌≡◌, ◌+◌, ◌<◌, ◌∷◌, length, drop, ap, sym, ◌∙◌, arith}
use Rattle.std.proofs.lemmas.List.{drop_more}
use Rattle.wide_types.specs.Widening.{agrees_within, each_agrees, each_type_agrees, types_agree}
use Rattle.wide_types.proofs.Agreed.{owed_more}
use Rattle.wide_types.proofs.agreement.+agree.Goals as goal

pub push_part_agreements-loop-index-preserved : goal.push_part_agreements-loop-index-preserved
push_part_agreements-loop-index-preserved t c =
    let agree = agrees_within c.args.depth c.args.before in
    let is = c.args.first.now in
    let js = c.args.others.now in
    let i = c.loop-index.index in
    let x = c.index-first-index.result in
    let y = c.index-others-index.result in
    let within : i < length js = omega arith in
    let rest : drop i is ≡ x ∷ drop (i + 1) is = drop_more is i x c.loop-index-test.true ∙ ap (λ z. z ∷ drop (i + 1) is) (sym c.index-first-index.is) in
    let others : drop i js ≡ y ∷ drop (i + 1) js = drop_more js i y within ∙ ap (λ z. z ∷ drop (i + 1) js) (sym c.index-others-index.is) in
    owed_more c.loop-index.conditions c.push_agreement.new.conditions (agree x y) (each_agrees agree (drop (i + 1) is) (drop (i + 1) js))
    (each_agrees agree (drop i is) (drop i js)) c.in_ok-push_agreement.ensures (λ k. each_agrees agree (rest k) (others k)) ∙ c.loop-index.invariant

pub push_type_agreements-loop-index-preserved : goal.push_type_agreements-loop-index-preserved
push_type_agreements-loop-index-preserved t c =
    let m = c.args.before in
    let agree = agrees_within c.args.depth m in
    let is = c.args.first.now in
    let js = c.args.others.now in
    let i = c.loop-index.index in
    let x = c.index-first-index.result in
    let y = c.index-others-index.result in
    let within : i < length js = omega arith in
    let rest : drop i is ≡ x ∷ drop (i + 1) is = drop_more is i x c.loop-index-test.true ∙ ap (λ z. z ∷ drop (i + 1) is) (sym c.index-first-index.is) in
    let others : drop i js ≡ y ∷ drop (i + 1) js = drop_more js i y within ∙ ap (λ z. z ∷ drop (i + 1) js) (sym c.index-others-index.is) in
    owed_more c.loop-index.conditions c.push_type_agreement.new.conditions (types_agree agree m x y)
    (each_type_agrees agree m (drop (i + 1) is) (drop (i + 1) js)) (each_type_agrees agree m (drop i is) (drop i js))
    c.in_ok-push_type_agreement.ensures (λ k. each_type_agrees agree m (rest k) (others k)) ∙ c.loop-index.invariant
