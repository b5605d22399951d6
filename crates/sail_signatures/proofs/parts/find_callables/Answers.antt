use Rattle.std.proofs.Common.{◌≡◌, ◌+◌, ◌∷◌, [], ◌++◌, ◌≤◌, length, take, sym, ap, ◌∙◌, subst, arith}
use Rattle.std.proofs.lemmas.List.{take_more, take_all, length-take-le}
use Rattle.sail_signatures.specs.Parts.{AreOf}
use Rattle.sail_signatures.proofs.parts.find_callables.Goals as goal

pub loop-at-preserved : goal.loop-at-preserved
loop-at-preserved c =
    let text = c.args.definitions.now in
    let index = c.loop-at.at in
    let d = c.index-definitions-at.result in
    let earlier = take index text in
    let grown : take (index + 1) text ≡ earlier ++ d ∷ [] =
    take_more text index d c.loop-at-test.true ∙ ap (λ x. earlier ++ x ∷ []) (sym c.index-definitions-at.is) in
    let within : index ≤ length text = omega (arith, c.loop-at-test.true) in
    subst (λ all. AreOf all c.add.new.self) (sym grown)
    (c.in_ok-add.ensures earlier (length-take-le index text within) c.loop-at.invariant)

pub returns : goal.returns
returns c =
    subst (λ all. AreOf all c.loop-at.callables) (take_all c.loop-at.at c.args.definitions.now c.loop-at-test.false)
    c.loop-at.invariant
