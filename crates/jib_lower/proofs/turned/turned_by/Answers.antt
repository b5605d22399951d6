use Rattle.std.proofs.Common.{◌≡◌, ◌∙◌, ◌++◌, [], ap, List, Option, ℕ}
use Rattle.jib_lower.specs.Crossings.{calls_of, turned_from, turns_of, wanted_by}
use Rattle.jib_lower.proofs.turned.turned_by.Goals as goal

pub returns : goal.returns
returns c =
    let crossings = c.in_ok-crossings.crossings in
    let core = c.args.core.now in
    let from : List (List ℕ) → List ℕ → List (List ℕ) → List (Option ℕ) =
    λ calls wanted of. turned_from c.args.numbers.now c.args.sized.now.instances c.args.sized.now.mappings calls wanted 0 of in
    c.in_ok-push_turned.ensures ∙ ap (λ xs. xs ++ from crossings.calls crossings.wanted c.as_slice-calls.result.now) c.new-turned.ensures
    ∙ ap (from crossings.calls crossings.wanted) c.as_slice-calls.ensures
    ∙ ap (λ cs. from cs crossings.wanted cs) c.in_ok-crossings.ensures.calls
    ∙ ap (λ ds. from (calls_of core.directions) ds (calls_of core.directions)) c.in_ok-crossings.ensures.wanted
