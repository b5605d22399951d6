use Rattle.std.proofs.Common.{◌≡◌, ◌+◌, ◌∷◌, [], ◌++◌, take, sym, ap, ◌∙◌, subst}
use Rattle.std.proofs.lemmas.List.{take_more, take_all}
use Rattle.known_names.specs.Held.{AreFirstOf}
use Rattle.known_names.proofs.firsts.find_firsts.Goals as goal

pub loop-naming-preserved : goal.loop-naming-preserved
loop-naming-preserved c =
    let namings = c.args.namings.now in
    let index = c.loop-naming.naming-index in
    let naming = c.naming-item.result in
    let earlier = take index namings in
    let grown : take (index + 1) namings ≡ earlier ++ naming ∷ [] =
    take_more namings index naming c.loop-naming-test.true ∙ ap (λ x. earlier ++ x ∷ []) (sym c.naming-item.is) in
    subst (λ all. AreFirstOf all c.add.new.self) (sym grown) (c.in_ok-add.ensures earlier c.loop-naming.invariant)

pub returns : goal.returns
returns c =
    subst (λ all. AreFirstOf all c.loop-naming.firsts) (take_all c.loop-naming.naming-index c.args.namings.now c.loop-naming-test.false) c.loop-naming.invariant
