use Rattle.std.proofs.Common.{sym, subst, ◌∙◌}
use Rattle.value_indices.specs.Walking.{Written, seen}
use Rattle.pattern_leaves.specs.Settings.{around_of}
use Rattle.constraint_gen.specs.Expressions.{part}
use Rattle.constraint_gen.specs.Models.{opening_walk}
use Rattle.size_notes.specs.Bodies.{opening_behind, opening_read}
use Rattle.size_notes.specs.Reading.{IsAtRest}
use Rattle.size_notes.proofs.Chained.{opening_end, read_end}
use Rattle.size_notes.proofs.Walked.{begun_rest, ended_rest}
use Rattle.size_notes.proofs.models.read_opening.Goals as goal

pub append_alone-requires-clause-rest : goal.append_alone-requires-clause-rest
append_alone-requires-clause-rest c = subst (λ (v : Written). IsAtRest v) (sym c.new-body.ensures) (begun_rest 0)

pub append_alone-requires-clause-ended : goal.append_alone-requires-clause-ended
append_alone-requires-clause-ended c =
    let o = c.args.opening.now in
    subst (λ (v : Written). IsAtRest v) (sym c.in_ok-inner.ensures)
    (ended_rest (opening_walk (around_of c.args.around.now) o.place o.kind (part o.value)) 0)

pub returns : goal.returns
returns c =
    let around = around_of c.args.around.now in
    let o = c.args.opening.now in
    read_end c.ended_body.result (opening_read around o) (seen c.append_alone.new.body)
    (opening_end (opening_behind around o) c.as_slice.result.now (opening_walk around o.place o.kind (part o.value)) (seen c.new-body.result)
    (seen c.in_ok-inner.inner) (seen c.append_alone.new.body) c.new-body.ensures c.in_ok-inner.ensures
    (c.as_slice.ensures ∙ c.in_ok-behind.ensures) c.in_ok-append_alone.ensures)
    c.ended_body.ensures
