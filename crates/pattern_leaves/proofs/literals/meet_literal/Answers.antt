use Rattle.std.proofs.Common.{[], List, sym, ap, ◌∙◌}
use Rattle.value_indices.specs.declared.indices.Indices.{Indices}
use Rattle.value_indices.specs.declared.indices.Indices.TheOpen.{Indices-F}
use Rattle.value_indices.specs.declared.indices.Reading.{Reading}
use Rattle.value_indices.specs.Walking.{got, run, seen}
use Rattle.value_indices.proofs.Walks.{got_give, run_give}
use Rattle.pattern_leaves.specs.declared.names.Bound.{Bound}
use Rattle.pattern_leaves.specs.Literals.{literal_met}
use Rattle.pattern_leaves.proofs.Opened.{out_never}
use Rattle.pattern_leaves.proofs.literals.meet_literal.Goals as goal

pub returns-in-Never-clause-found : goal.returns-in-Never-clause-found
returns-in-Never-clause-found c =
    let v = seen c.args.walking.now in
    let never = sym (out_never c.args.indices.now c.in-Never.is) in
    c.new.ensures ∙ sym (got_give {A = List Bound} [] v)
    ∙ ap (λ (f : Indices-F Indices Reading). got (literal_met c.args.place c.args.in_case c.args.literal.now f) v) never

pub returns-in-Never-clause-walked : goal.returns-in-Never-clause-walked
returns-in-Never-clause-walked c =
    let v = seen c.args.walking.now in
    let never = sym (out_never c.args.indices.now c.in-Never.is) in
    sym (run_give {A = List Bound} [] v)
    ∙ ap (λ (f : Indices-F Indices Reading). run (literal_met c.args.place c.args.in_case c.args.literal.now f) v) never
