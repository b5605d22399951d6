use Rattle.std.proofs.Common.{ap, List}
use Rattle.shape_rules.specs.declared.callees.Candidate.{Candidate}
use Rattle.shape_rules.specs.Around.{setting_of}
use Rattle.shape_rules.specs.Calls.{chosen, prefix_text, prefix_members}
use Rattle.shape_walks.proofs.Called.{picked_made, picked_noted}
use Rattle.shape_walks.proofs.heads.prefixed_made.Goals as goal

pub returns-clause-made : goal.returns-clause-made
returns-clause-made c =
    let members : List Candidate = prefix_members (setting_of c.args.around.now) c.args.prefix in
    picked_made c.member_made.result c.args.place c.prefix_text.result.now (prefix_text c.args.prefix) c.args.want.now
    c.args.walk c.in_ok-picked.picked (chosen members c.as_slice.result.now) (chosen members c.args.walk.shapes)
    c.prefix_text.ensures (ap (chosen members) c.as_slice.ensures) c.in_ok-picked.ensures c.member_made.ensures.made

pub returns-clause-failures : goal.returns-clause-failures
returns-clause-failures c =
    let members : List Candidate = prefix_members (setting_of c.args.around.now) c.args.prefix in
    picked_noted c.member_made.result c.args.place c.prefix_text.result.now (prefix_text c.args.prefix) c.args.want.now
    c.args.walk c.in_ok-picked.picked (chosen members c.as_slice.result.now) (chosen members c.args.walk.shapes)
    c.args.first.now.error c.member_made.new.first.error c.prefix_text.ensures (ap (chosen members) c.as_slice.ensures)
    c.in_ok-picked.ensures c.member_made.ensures.failures
