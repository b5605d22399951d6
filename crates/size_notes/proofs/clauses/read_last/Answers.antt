use Rattle.std.proofs.Common.{[], refl, sym, subst}
use Rattle.value_indices.specs.Walking.{Written, seen}
use Rattle.size_notes.specs.Bodies.{last_inside}
use Rattle.size_notes.specs.Reading.{IsAtRest}
use Rattle.size_notes.proofs.Chained.{appended_alone}
use Rattle.size_notes.proofs.Walked.{ended_rest}
use Rattle.size_notes.proofs.clauses.read_last.Goals as goal

pub append_alone-requires-clause-ended : goal.append_alone-requires-clause-ended
append_alone-requires-clause-ended c =
    subst (λ (w : Written). IsAtRest w) (sym c.in_ok-inner.ensures)
    (ended_rest (last_inside c.args.constraint.now c.args.place c.args.number c.args.reading.now) c.next.result)

pub returns : goal.returns
returns c =
    appended_alone c.append_alone.result [] [] (last_inside c.args.constraint.now c.args.place c.args.number c.args.reading.now) c.next.result
    (seen c.args.body.now) (seen c.in_ok-inner.inner) (seen c.append_alone.new.body) c.next.ensures c.in_ok-inner.ensures refl c.append_alone.ensures
