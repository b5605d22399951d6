use Rattle.std.proofs.Common.{◌≡◌, ◌∙◌, ◌+◌, ◌++◌, ◌∷◌, [], drop, ap, sym, append_assoc, append-nil}
use Rattle.std.proofs.lemmas.List.{drop_more, drop_all}
use Rattle.expression_steps.specs.Filling.{each_filled}
use Rattle.expression_steps.proofs.Fillings.{filled_more}
use Rattle.expression_steps.proofs.filling.each_filled.Goals as goal

pub loop-index-preserved : goal.loop-index-preserved
loop-index-preserved c =
    let rs = c.args.readings.now in
    let qs = c.args.others.now in
    let i = c.loop-index.index in
    let x = c.index-readings-index.result in
    let rest = each_filled (drop (i + 1) rs) (drop (i + 1) qs) in
    let opens : drop i rs ≡ x ∷ drop (i + 1) rs = drop_more rs i x c.loop-index-test.true ∙ ap (λ y. y ∷ drop (i + 1) rs) (sym c.index-readings-index.is) in
    let first : each_filled (drop i rs) (drop i qs) ≡ c.in_ok-filled_at.field-0 ∷ rest =
    ap (λ l. each_filled l (drop i qs)) opens ∙ filled_more x (drop (i + 1) rs) qs i ∙ ap (λ y. y ∷ rest) (sym c.in_ok-filled_at.ensures) in
    ap (λ l. l ++ rest) c.in_ok-push.ensures.pushed ∙ append_assoc c.loop-index.made (c.in_ok-filled_at.field-0 ∷ []) rest
    ∙ ap (λ l. c.loop-index.made ++ l) (sym first) ∙ c.loop-index.invariant

pub returns : goal.returns
returns c =
    let rs = c.args.readings.now in
    let i = c.loop-index.index in
    let none : each_filled (drop i rs) (drop i c.args.others.now) ≡ [] =
    ap (λ l. each_filled l (drop i c.args.others.now)) (drop_all i rs c.loop-index-test.false) in
    sym (append-nil c.loop-index.made) ∙ ap (λ l. c.loop-index.made ++ l) (sym none) ∙ c.loop-index.invariant
