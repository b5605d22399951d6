use Rattle.std.proofs.Common.{◌≡◌, ◌∙◌, ap, sym, []}
use Rattle.std.proofs.lemmas.List.{nil_from_length}
use Rattle.std.specs.Vec.Iter.{into_iter_items}
use Rattle.value_indices.specs.Steps.{assume_all}
use Rattle.value_indices.specs.Walking.{seen, run}
use Rattle.value_indices.proofs.Methods.{none_assumed}
use Rattle.value_indices.proofs.walking.Walking.assume_all.Goals as goal

pub returns : goal.returns
returns c =
    let l = c.loop-condition in
    let none : into_iter_items l.condition-iterator ≡ [] = nil_from_length _ (sym l.invariant.known ∙ c.in-None.ensures.steps.0) in
    sym (none_assumed (seen l.self)) ∙ ap (λ cs. run (assume_all cs) (seen l.self)) (sym none) ∙ l.invariant.assumed
