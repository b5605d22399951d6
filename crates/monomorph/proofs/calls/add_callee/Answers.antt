use Rattle.monomorph.specs.Reading.{inside_of, under}
use Rattle.monomorph.proofs.Noted.{applies, converts}
use Rattle.monomorph.proofs.calls.add_callee.Goals as goal

pub returns-in-Converts : goal.returns-in-Converts
returns-in-Converts c =
    let ins = inside_of c.args.inside.now in
    let call = c.args.call.now in
    converts c.add_direction.result ins call.place (under ins c.args.picked.now) call.callee call.numbers.now call.types.now c.args.found.now
    c.add_direction.new.found c.in-Converts.direction c.add_direction.ensures c.in-Converts.is

pub returns-in-Applies : goal.returns-in-Applies
returns-in-Applies c =
    let ins = inside_of c.args.inside.now in
    let call = c.args.call.now in
    let added = c.add_direction-in-Applies in
    applies added.result ins call.place (under ins c.args.picked.now) call.callee call.numbers.now call.types.now c.args.found.now added.new.found
    c.in-Applies.direction added.ensures c.in-Applies.is
