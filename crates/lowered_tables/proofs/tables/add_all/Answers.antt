use Rattle.std.proofs.Common.{refl, take}
use Rattle.lowered_tables.specs.Built.{with_number}
use Rattle.lowered_tables.proofs.Growing.{all_more, begins_here, begins_then, exit_more, known_next, known_whole, one_next, one_stuck, one_whole}
use Rattle.lowered_tables.proofs.tables.add_all.Goals as goal

pub loop-typ-init : goal.loop-typ-init
loop-typ-init c = record { begins = begins_here c.args.list.now.numbered; known = refl; listed = refl }

pub loop-typ-preserved : goal.loop-typ-preserved
loop-typ-preserved c =
    let l = c.loop-typ in
    let e = c.in_ok-add_type.ensures.grown in
    record {
      begins = begins_then c.args.list.now.numbered l.list.numbered c.add_type.new.list.numbered l.invariant.begins e.begins;
      known = known_next c.add_type.new.list.numbered c.args.all.now l.typ-index c.typ-item.result
          (all_more l.list.numbered c.add_type.new.list.numbered (take l.typ-index c.args.all.now) e.begins l.invariant.known) e.known
          c.loop-typ-test.true c.typ-item.is;
      listed = one_next (with_number c.args.types.now) c.args.list.now.numbered c.args.all.now l.typ-index c.typ-item.result l.list.numbered
          c.add_type.new.list.numbered l.invariant.listed c.in_ok-add_type.ensures.listed c.loop-typ-test.true c.typ-item.is;
    }

pub returns-clause-known : goal.returns-clause-known
returns-clause-known c = let l = c.loop-typ in known_whole l.list.numbered c.args.all.now l.typ-index c.loop-typ-test.false l.invariant.known

pub returns-clause-listed : goal.returns-clause-listed
returns-clause-listed c =
    let l = c.loop-typ in
    one_whole (with_number c.args.types.now) c.args.list.now.numbered c.args.all.now l.typ-index l.list.numbered c.loop-typ-test.false l.invariant.listed

pub returns-in_err-add_type-clause-left : goal.returns-in_err-add_type-clause-left
returns-in_err-add_type-clause-left c =
    let l = c.loop-typ in
    exit_more _ _ c.from_residual.ensures.1
    (one_stuck (with_number c.args.types.now) c.args.list.now.numbered c.args.all.now l.typ-index c.typ-item.result l.list.numbered c.loop-typ-test.true
    c.typ-item.is l.invariant.listed) c.in_err-add_type.ensures.left
