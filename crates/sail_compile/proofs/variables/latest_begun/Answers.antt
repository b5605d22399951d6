use Rattle.std.proofs.Common.{◌≡◌, ◌+◌, ◌∷◌, drop, sym, ap, ◌∙◌}
use Rattle.std.proofs.lemmas.List.{drop_more}
use Rattle.sail_compile.specs.Variables.{latest, begins, all_begun}
use Rattle.sail_compile.proofs.VariableLemmas.{latest_append}
use Rattle.sail_compile.proofs.variables.latest_begun.Goals as goal

pub loop-definition-preserved : goal.loop-definition-preserved
loop-definition-preserved c =
    let at = c.args.at in
    let text = c.args.definitions.now in
    let index = c.loop-definition.definition-index in
    let d = c.definition-item.result in
    let rest = drop (index + 1) text in
    let kept = c.loop-definition.latest in
    let next : drop index text ≡ d ∷ rest = drop_more text index d c.loop-definition-test.true ∙ ap (λ x. x ∷ rest) (sym c.definition-item.is) in
    ap (λ k. latest at k (all_begun rest)) c.in_ok-latest.ensures ∙ sym (latest_append at kept (begins d) (all_begun rest))
    ∙ ap (λ left. latest at kept (all_begun left)) (sym next) ∙ c.loop-definition.invariant
