use Rattle.std.proofs.Common.{◌∷◌, ◌++◌, [], List, sym, ap, ◌∙◌}
use Rattle.value_indices.specs.Steps.{Walk}
use Rattle.value_indices.specs.Walking.{got, run, seen}
use Rattle.value_indices.proofs.Walks.{got_give, run_give}
use Rattle.pattern_leaves.specs.declared.names.Bound.{Bound}
use Rattle.pattern_leaves.specs.Settings.{bound}
use Rattle.pattern_notes.proofs.Looked.{name_of}
use Rattle.pattern_notes.proofs.parts.match_name.Goals as goal

pub returns-in_ok-push-in-empty-clause-found : goal.returns-in_ok-push-in-empty-clause-found
returns-in_ok-push-in-empty-clause-found c =
    let name = c.args.name.now in
    let i = c.args.indices.now in
    let v = seen c.args.walking.now in
    c.in_ok-push-in-empty.ensures.pushed ∙ (λ j. c.new-found.ensures j ++ c.in_ok-name_value-in-empty.ensures j ∷ [])
    ∙ sym (got_give (bound name i ∷ []) v)
    ∙ ap (λ (a : Walk (List Bound)). got a v) (name_of c.args.place name c.args.parts.now i c.in-empty.len_below)

pub returns-in_ok-push-in-empty-clause-walked : goal.returns-in_ok-push-in-empty-clause-walked
returns-in_ok-push-in-empty-clause-walked c =
    let name = c.args.name.now in
    let i = c.args.indices.now in
    let v = seen c.args.walking.now in
    sym (run_give (bound name i ∷ []) v)
    ∙ ap (λ (a : Walk (List Bound)). run a v) (name_of c.args.place name c.args.parts.now i c.in-empty.len_below)
