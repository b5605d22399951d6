use Rattle.std.proofs.Common.{sym, ◌∙◌}
use Rattle.monomorph.specs.Lasts.{model_in}
use Rattle.monomorph.proofs.Lasting.{grow_done, grow_end, grow_next, grow_refused}
use Rattle.monomorph.proofs.Over.{is_fine, is_refused}
use Rattle.monomorph.proofs.growing.grow.Goals as goal

pub returns-in-None : goal.returns-in-None
returns-in-None c =
    let l = c.loop-turn in
    grow_done (model_in c.args.model.now) c.args.times l._turn l.at l.found _ c.loop-turn-test.true l.invariant
    (sym c.in_ok-found_at.ensures ∙ c.in-None.is)

pub loop-turn-preserved : goal.loop-turn-preserved
loop-turn-preserved c =
    let l = c.loop-turn in
    let new = c.read_found.new.found in
    grow_next (model_in c.args.model.now) c.args.times l._turn l.at l.found _ c.loop-turn-test.true l.invariant c.in-Some.one c.in_ok-next.next new
    (sym c.in_ok-found_at.ensures ∙ c.in-Some.is) c.in_ok-next.ensures
    (is_fine c.in_ok-read_found.field-0 new _ c.in-None-2.is c.in_ok-read_found.ensures)

pub returns-in-Some-2 : goal.returns-in-Some-2
returns-in-Some-2 c =
    let l = c.loop-turn in
    let new = c.read_found.new.found in
    grow_refused (model_in c.args.model.now) c.args.times l._turn l.at l.found _ c.loop-turn-test.true l.invariant c.in-Some.one c.in-Some-2.refused new
    new (sym c.in_ok-found_at.ensures ∙ c.in-Some.is)
    (is_refused c.in_ok-read_found.field-0 c.in-Some-2.refused new _ c.in-Some-2.is c.in_ok-read_found.ensures)

pub returns : goal.returns
returns c =
    let l = c.loop-turn in
    grow_end (model_in c.args.model.now) c.args.times l._turn l.at l.found _ c.loop-turn-test.false l.invariant
