use Rattle.std.proofs.Common.{◌≡◌, ◌+◌, ◌∷◌, drop, sym, ap, ◌∙◌}
use Rattle.std.proofs.lemmas.List.{drop_more}
use Rattle.sail_kinds.specs.Failures.{first_failure}
use Rattle.sail_declared.specs.Wanting.{wanting, all_wanting}
use Rattle.sail_kinds.proofs.Firsts.{first_failure_append}
use Rattle.sail_declared.proofs.wanting.note_wanting.Goals as goal

pub loop-definition-preserved : goal.loop-definition-preserved
loop-definition-preserved c =
    let text = c.args.definitions.now in
    let index = c.loop-definition.definition-index in
    let d = c.definition-item.result in
    let rest = drop (index + 1) text in
    let next : drop index text ≡ d ∷ rest = drop_more text index d c.loop-definition-test.true ∙ ap (λ x. x ∷ rest) (sym c.definition-item.is) in
    λ namings h. ap (λ kept. first_failure kept (all_wanting namings rest)) (c.in_ok-note_definition.ensures namings h)
    ∙ sym (first_failure_append c.loop-definition.first.error (wanting namings d) (all_wanting namings rest))
    ∙ ap (λ left. first_failure c.loop-definition.first.error (all_wanting namings left)) (sym next) ∙ c.loop-definition.invariant namings h
