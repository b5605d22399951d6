use Rattle.std.proofs.Common.{◌≡◌, ◌+◌, ◌∷◌, [], ◌++◌, take, sym, ap, ◌∙◌, subst}
use Rattle.std.proofs.lemmas.List.{take_more, take_all}
use Rattle.known_names.specs.Held.{AreEntered, entered_at}
use Rattle.known_names.proofs.Growing.{entered_more}
use Rattle.known_names.proofs.entered.find_entered.Goals as goal

pub loop-definition-preserved : goal.loop-definition-preserved
loop-definition-preserved c =
    let text = c.args.definitions.now in
    let index = c.loop-definition.definition-index in
    let d = c.definition-item.result in
    let earlier = take index text in
    let now = entered_at c.add_definition.new.self.names in
    let grown : take (index + 1) text ≡ earlier ++ d ∷ [] =
    take_more text index d c.loop-definition-test.true ∙ ap (λ x. earlier ++ x ∷ []) (sym c.definition-item.is) in
    λ namings h. subst (λ all. AreEntered namings all now) (sym grown)
    (entered_more namings earlier d (entered_at c.loop-definition.entered.names) now (c.in_ok-add_definition.ensures namings h)
    (c.loop-definition.invariant namings h))

pub returns : goal.returns
returns c =
    λ namings h. subst (λ all. AreEntered namings all (entered_at c.loop-definition.entered.names))
    (take_all c.loop-definition.definition-index c.args.definitions.now c.loop-definition-test.false) (c.loop-definition.invariant namings h)
