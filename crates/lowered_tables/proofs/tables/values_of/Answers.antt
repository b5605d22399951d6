use Rattle.lowered_tables.specs.Built.{value_at}
use Rattle.lowered_tables.proofs.Growing.{exit_more, got_at, inside_next, inside_whole, map_next, map_whole}
use Rattle.lowered_tables.proofs.tables.values_of.Goals as goal

pub loop-typ-preserved : goal.loop-typ-preserved
loop-typ-preserved c =
    let l = c.loop-typ in
    let e = c.in_ok-value_in.ensures in
    record {
      values = map_next (value_at c.args.types.now c.args.numbered.now) c.args.numbered.now l.typ-index c.typ-item.result l.values c.push.new.self
          c.in_ok-value_in.field-0 l.invariant.values c.in_ok-push.ensures.pushed e.value c.loop-typ-test.true c.typ-item.is;
      inside = inside_next c.args.types.now c.args.numbered.now c.args.numbered.now l.typ-index c.typ-item.result l.invariant.inside e.inside
          c.loop-typ-test.true c.typ-item.is;
    }

pub returns-clause-values : goal.returns-clause-values
returns-clause-values c =
    let l = c.loop-typ in
    map_whole (value_at c.args.types.now c.args.numbered.now) c.args.numbered.now l.typ-index l.values c.loop-typ-test.false l.invariant.values

pub returns-clause-inside : goal.returns-clause-inside
returns-clause-inside c =
    let l = c.loop-typ in
    inside_whole c.args.types.now c.args.numbered.now c.args.numbered.now l.typ-index c.loop-typ-test.false l.invariant.inside

pub returns-in_err-value_in-clause-left : goal.returns-in_err-value_in-clause-left
returns-in_err-value_in-clause-left c =
    exit_more _ _ c.from_residual.ensures.1 (λ why. record {
      place = c.loop-typ.typ-index;
      typ = c.typ-item.result;
      there = got_at c.args.numbered.now c.loop-typ.typ-index c.typ-item.result c.loop-typ-test.true c.typ-item.is;
      why = why;
    }) c.in_err-value_in.ensures.left
