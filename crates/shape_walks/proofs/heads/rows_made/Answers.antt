use Rattle.std.proofs.Common.{ap, map, List}
use Rattle.shape_rules.specs.declared.callees.Candidate.{Candidate}
use Rattle.shape_rules.specs.Calls.{chosen, member_candidate}
use Rattle.shape_walks.proofs.Called.{picked_made, picked_noted}
use Rattle.shape_walks.proofs.heads.rows_made.Goals as goal

pub returns-clause-made : goal.returns-clause-made
returns-clause-made c =
    let members : List Candidate = map member_candidate c.args.members.now in
    picked_made c.member_made.result c.args.name.now.place c.as_str.result.now c.args.name.now.text c.args.want.now
    c.args.walk c.in_ok-picked.picked (chosen members c.as_slice.result.now) (chosen members c.args.walk.shapes)
    c.as_str.ensures (ap (chosen members) c.as_slice.ensures) c.in_ok-picked.ensures c.member_made.ensures.made

pub returns-clause-failures : goal.returns-clause-failures
returns-clause-failures c =
    let members : List Candidate = map member_candidate c.args.members.now in
    picked_noted c.member_made.result c.args.name.now.place c.as_str.result.now c.args.name.now.text c.args.want.now
    c.args.walk c.in_ok-picked.picked (chosen members c.as_slice.result.now) (chosen members c.args.walk.shapes)
    c.args.first.now.error c.member_made.new.first.error c.as_str.ensures (ap (chosen members) c.as_slice.ensures)
    c.in_ok-picked.ensures c.member_made.ensures.failures
