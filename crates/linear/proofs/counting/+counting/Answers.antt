use Rattle.std.proofs.Common.{◌≡◌, ◌<◌, ◌^◌, sym, ap, ◌∙◌, arith}
use Rattle.std.specs.List.{list_any}
use Rattle.std.proofs.lemmas.Bool.{and_left, and_right}
use Rattle.linear.specs.Cases.{is_false}
use Rattle.linear.proofs.Counts.{no_rows, some_rows, all_more, any_more, all_end, any_end}
use Rattle.linear.proofs.counting.+counting.Goals as goal

pub count-returns-then-has_false : goal.count-returns-then-has_false
count-returns-then-has_false t c = no_rows c.args.cut c.in-Rows.rows _ c.in-Rows.is c.if-cut.true (sym (c.if-has_false.ensures ∙
    ap (list_any is_false) c.as_slice.ensures))

pub count-returns-else-has_false : goal.count-returns-else-has_false
count-returns-else-has_false t c = some_rows c.args.cut c.in-Rows.rows _ c.in-Rows.is (and_right c.args.cut (list_any is_false c.in-Rows.rows) (sym
    (c.if-has_false.ensures ∙ ap (list_any is_false) c.as_slice.ensures)))

pub count-returns-else-cut : goal.count-returns-else-cut
count-returns-else-cut t c = some_rows c.args.cut c.in-Rows.rows _ c.in-Rows.is (and_left c.args.cut (list_any is_false c.in-Rows.rows) c.if-cut.false)

pub count_all-loop-part-preserved : goal.count_all-loop-part-preserved
count_all-loop-part-preserved t c = record {
  small = omega (arith, c.saturating_mul-found.ensures);
  same = all_more c.args.cut c.args.parts.now c.loop-part.part-index c.part-item.result _ _ _ _ c.loop-part-test.true c.part-item.is c.count.ensures
      c.saturating_mul-found.ensures c.loop-part.invariant.same;
}

pub count_all-returns : goal.count_all-returns
count_all-returns t c = all_end c.args.cut c.args.parts.now c.loop-part.part-index _ _ c.loop-part-test.false c.loop-part.invariant.small
    c.loop-part.invariant.same

pub count_any-loop-part-preserved : goal.count_any-loop-part-preserved
count_any-loop-part-preserved t c = record {
  small = omega (arith, c.saturating_add-found.ensures);
  same = any_more c.args.cut c.args.parts.now c.loop-part.part-index c.part-item.result _ _ _ _ c.loop-part-test.true c.part-item.is c.count.ensures
      c.saturating_add-found.ensures c.loop-part.invariant.same;
}

pub count_any-returns : goal.count_any-returns
count_any-returns t c = any_end c.args.cut c.args.parts.now c.loop-part.part-index _ _ c.loop-part-test.false c.loop-part.invariant.small
    c.loop-part.invariant.same
