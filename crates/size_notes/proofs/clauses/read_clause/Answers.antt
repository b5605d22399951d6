use Rattle.std.proofs.Common.{sym, subst, ◌∙◌, ◌++◌}
use Rattle.value_indices.specs.Walking.{Written, seen}
use Rattle.pattern_leaves.specs.Settings.{around_of}
use Rattle.size_notes.specs.Behind.{found_in, node_of}
use Rattle.size_notes.specs.Bodies.{clause_inside, sized_body}
use Rattle.size_notes.specs.Reading.{IsAtRest}
use Rattle.size_notes.proofs.Chained.{appended_alone}
use Rattle.size_notes.proofs.Walked.{ended_rest}
use Rattle.size_notes.proofs.clauses.read_clause.Goals as goal

pub append_alone-requires-clause-ended : goal.append_alone-requires-clause-ended
append_alone-requires-clause-ended c =
    let common = c.args.common.now in
    subst (λ (w : Written). IsAtRest w) (sym c.in_ok-inner.ensures)
    (ended_rest (clause_inside c.args.constraint.now common.place c.args.giver (around_of c.args.around.now) common.types.now common.aim.now
    common.is_declared c.args.arm.now c.args.core.now) c.next.result)

pub returns : goal.returns
returns c =
    let common = c.args.common.now in
    let around = around_of c.args.around.now in
    let found = found_in (node_of around.numbers (sized_body common.is_declared c.args.core.now)) in
    appended_alone c.append_alone.result found c.as_slice.result.now
    (clause_inside c.args.constraint.now common.place c.args.giver around common.types.now common.aim.now common.is_declared c.args.arm.now
    c.args.core.now)
    c.next.result (seen c.args.body.now) (seen c.in_ok-inner.inner) (seen c.append_alone.new.body) c.next.ensures c.in_ok-inner.ensures
    (c.as_slice.ensures
    ∙ (c.in_ok-push_core.ensures ∙ (λ j. c.new-behind.ensures j ++ found_in (node_of around.numbers (c.sized_body-sized.ensures j))))) c.append_alone.ensures
