use Rattle.std.proofs.Common.{◌≡◌, ℕ, ◌+◌, ◌∷◌, [], ◌++◌, List, take, get_or, sym, ap, ◌∙◌}
use Rattle.std.proofs.lemmas.List.{take_more, take_all}
use Rattle.known_names.specs.Meanings.{members_entered, members_of_operator, added_to_operator}
use Rattle.known_names.proofs.Growing.{members_more}
use Rattle.known_names.proofs.entered.find_operators.Goals as goal

pub loop-definition-preserved : goal.loop-definition-preserved
loop-definition-preserved c =
    let text = c.args.definitions.now in
    let index = c.loop-definition.definition-index in
    let d = c.definition-item.result in
    let earlier = take index text in
    let grown : take (index + 1) text ≡ earlier ++ d ∷ [] =
    take_more text index d c.loop-definition-test.true ∙ ap (λ x. earlier ++ x ∷ []) (sym c.definition-item.is) in record {
      count = c.in_ok-add_operators.ensures.count;
      entered = λ namings h number. c.in_ok-add_operators.ensures.added namings h number
          ∙ ap (λ all. all ++ members_entered namings (added_to_operator number d)) (c.loop-definition.invariant.entered namings h number)
          ∙ sym (members_more namings (added_to_operator number) earlier d)
          ∙ ap (λ all. members_entered namings (members_of_operator all number)) (sym grown);
    }

pub returns : goal.returns
returns c =
    λ namings h number. ap (λ (lists : List (List ℕ)). get_or lists number []) c.from_vec.ensures
    ∙ c.loop-definition.invariant.entered namings h number
    ∙ ap (λ all. members_entered namings (members_of_operator all number))
    (take_all c.loop-definition.definition-index c.args.definitions.now c.loop-definition-test.false)
