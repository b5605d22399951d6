use Rattle.std.proofs.Common.{◌≡◌, ◌+◌, ◌||◌, ◌∷◌, [], ◌++◌, take, sym, ap, ◌∙◌}
use Rattle.std.specs.List.{list_any}
use Rattle.std.proofs.lemmas.List.{take_more, take_all}
use Rattle.known_names.specs.Meanings.{has_field}
use Rattle.known_names.proofs.Growing.{any_more}
use Rattle.known_names.proofs.meanings.find_fields.Goals as goal

pub loop-definition-preserved : goal.loop-definition-preserved
loop-definition-preserved c =
    let text = c.args.definitions.now in
    let index = c.loop-definition.definition-index in
    let d = c.definition-item.result in
    let earlier = take index text in
    let grown : take (index + 1) text ≡ earlier ++ d ∷ [] =
    take_more text index d c.loop-definition-test.true ∙ ap (λ x. earlier ++ x ∷ []) (sym c.definition-item.is) in
    λ name. c.in_ok-add_fields.ensures name ∙ ap (λ b. b || has_field name d) (c.loop-definition.invariant name)
    ∙ sym (any_more (has_field name) earlier d) ∙ ap (list_any (has_field name)) (sym grown)

pub returns : goal.returns
returns c =
    λ name. c.loop-definition.invariant name
    ∙ ap (list_any (has_field name)) (take_all c.loop-definition.definition-index c.args.definitions.now c.loop-definition-test.false)
