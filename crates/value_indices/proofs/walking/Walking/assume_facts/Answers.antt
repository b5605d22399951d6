use Rattle.std.proofs.Common.{◌≡◌, ◌∙◌, ap, sym, []}
use Rattle.std.proofs.lemmas.List.{nil_from_length}
use Rattle.std.specs.Vec.Iter.{into_iter_items}
use Rattle.value_indices.specs.Walking.{seen, with_facts}
use Rattle.value_indices.proofs.Methods.{no_facts}
use Rattle.value_indices.proofs.walking.Walking.assume_facts.Goals as goal

pub returns : goal.returns
returns c =
    let l = c.loop-fact in
    let none : into_iter_items l.fact-iterator ≡ [] = nil_from_length _ (sym l.invariant.known ∙ c.in-None.ensures.steps.0) in
    sym (no_facts (seen l.self)) ∙ ap (λ fs. with_facts fs (seen l.self)) (sym none) ∙ l.invariant.assumed
