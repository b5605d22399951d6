use Rattle.std.proofs.Common.{[], get_or}
use Rattle.size_notes.proofs.Lists.{got_again}
use Rattle.monomorph.specs.Reading.{read_way}
use Rattle.monomorph.proofs.Over.{is_fine, is_refused, over_next, over_refused, over_end}
use Rattle.monomorph.proofs.bodies.read_each_way.Goals as goal

pub loop-taken-preserved : goal.loop-taken-preserved
loop-taken-preserved c =
    let l = c.loop-taken in
    let ps = get_or c.args.combinations.now l._taken-index [] in
    let new = c.add_direction.new.found in
    over_next (read_way c.args.direction) c.args.combinations.now l._taken-index ps l.found new _ c.loop-taken-test.true
    (got_again c.args.combinations.now l._taken-index [] c.loop-taken-test.true)
    (is_fine c.in_ok-add_direction.field-0 new _ c.in-None.is (c.in_ok-add_direction.ensures ps)) l.invariant

pub returns-in-Some : goal.returns-in-Some
returns-in-Some c =
    let l = c.loop-taken in
    let ps = get_or c.args.combinations.now l._taken-index [] in
    let new = c.add_direction.new.found in
    over_refused (read_way c.args.direction) c.args.combinations.now l._taken-index ps c.in-Some.refused l.found new new _ c.loop-taken-test.true
    (got_again c.args.combinations.now l._taken-index [] c.loop-taken-test.true)
    (is_refused c.in_ok-add_direction.field-0 c.in-Some.refused new _ c.in-Some.is (c.in_ok-add_direction.ensures ps)) l.invariant

pub returns : goal.returns
returns c =
    let l = c.loop-taken in
    over_end (read_way c.args.direction) c.args.combinations.now l._taken-index l.found _ c.loop-taken-test.false l.invariant
