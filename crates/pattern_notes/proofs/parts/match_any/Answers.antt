use Rattle.std.proofs.Common.{[], List, sym, ap, ◌∙◌}
use Rattle.value_indices.specs.Steps.{Walk}
use Rattle.value_indices.specs.Walking.{got, run, seen}
use Rattle.value_indices.proofs.Walks.{got_give, run_give}
use Rattle.pattern_leaves.specs.declared.names.Bound.{Bound}
use Rattle.pattern_notes.proofs.Looked.{nothing_of}
use Rattle.pattern_notes.proofs.parts.match_any.Goals as goal

pub returns-in-empty-clause-found : goal.returns-in-empty-clause-found
returns-in-empty-clause-found c =
    let v = seen c.args.walking.now in
    c.new.ensures ∙ sym (got_give {A = List Bound} [] v)
    ∙ ap (λ (a : Walk (List Bound)). got a v) (nothing_of c.args.place c.args.parts.now c.in-empty.len_below)

pub returns-in-empty-clause-walked : goal.returns-in-empty-clause-walked
returns-in-empty-clause-walked c =
    let v = seen c.args.walking.now in
    sym (run_give {A = List Bound} [] v)
    ∙ ap (λ (a : Walk (List Bound)). run a v) (nothing_of c.args.place c.args.parts.now c.in-empty.len_below)
