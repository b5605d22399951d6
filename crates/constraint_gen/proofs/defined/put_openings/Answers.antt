use Rattle.std.proofs.Common.{◌++◌, [], take, ap, ◌∙◌, arith}
use Rattle.std.specs.Prelude.{slice_get}
use Rattle.constraint_gen.specs.Defined.{definitions_of}
use Rattle.constraint_gen.specs.Models.{around_opening, around_with, lets_behind, opening_definitions}
use Rattle.function_notes.proofs.Lists.{got_at}
use Rattle.constraint_gen.proofs.Placing.{openings_next, openings_end}
use Rattle.constraint_gen.proofs.defined.put_openings.Goals as goal

pub loop-at-preserved : goal.loop-at-preserved
loop-at-preserved c = λ core around same.
    let l = c.loop-at in
    let all = c.args.openings.now in
    let one = c.index-openings-at.result in
    openings_next (around_with core []) all l.at one (definitions_of core around l.list) (definitions_of core around c.put_opening.new.list)
    (definitions_of core around c.args.list.now ++ opening_definitions (around_with core []) all) (around_opening core l.at) (omega arith)
    c.index-openings-at.is
    (c.in_ok-put_opening.ensures core around (ap (λ xs. slice_get xs l.at) same ∙ got_at all l.at one (omega arith) c.index-openings-at.is))
    (ap (λ os. lets_behind (around_with core []) (take l.at os)) same) (l.invariant core around same)

pub returns : goal.returns
returns c = λ core around same.
    let l = c.loop-at in
    let all = c.args.openings.now in
    openings_end (lets_behind (around_with core []) (take l.at all)) all l.at (definitions_of core around l.list)
    (definitions_of core around c.args.list.now ++ opening_definitions (around_with core []) all) (omega arith) (l.invariant core around same)
