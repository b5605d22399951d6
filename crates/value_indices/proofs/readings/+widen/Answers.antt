use Rattle.std.proofs.Common.{◌≡◌, ◌+◌, ◌∙◌, ap, sym, subst, false, IfOk}
use Rattle.value_indices.specs.Opening.{wide_opening, namings_of}
use Rattle.value_indices.specs.Walking.{got, run, seen}
use Rattle.value_indices.proofs.Openings.{wide_kept}
use Rattle.value_indices.proofs.Parts.{parts_value, parts_walked, parts_value_end, parts_walked_end, on_ok}
use Rattle.value_indices.proofs.Walks.{got_give, run_give}
use Rattle.value_indices.proofs.readings.+widen.Goals as goal

pub open_each-loop-part-preserved : goal.open_each-loop-part-preserved
open_each-loop-part-preserved t c =
    let l = c.loop-part in
    let ns = namings_of c.args.naming.now in
    let x = c.part-item.result in
    let name = c.part_naming-name.result.now in
    let w = seen l.walked in
    let v = seen c.open_widened.new.walked in
    let found = c.in_ok-open_widened.ensures in
    record {
      here = ap (λ k. k + 1) l.invariant.here;
      value = parts_value false wide_opening c.args.parts.now ns l.part-index x l.at name w v c.loop-part-test.true c.part-item.is l.invariant.here
          c.part_naming-name.ensures found.walked l.made c.push.new.self _ c.in_ok-open_widened.field-0 found.value c.in_ok-push.ensures.pushed
          l.invariant.value;
      walked = parts_walked false wide_opening c.args.parts.now ns l.part-index x l.at name w v c.loop-part-test.true c.part-item.is l.invariant.here
          c.part_naming-name.ensures found.walked _ l.invariant.walked;
    }

pub open_each-returns-clause-value : goal.open_each-returns-clause-value
open_each-returns-clause-value t c =
    let l = c.loop-part in
    parts_value_end false wide_opening c.args.parts.now (namings_of c.args.naming.now) l.part-index (seen l.walked) c.loop-part-test.false l.made _
    l.invariant.value

pub open_each-returns-clause-walked : goal.open_each-returns-clause-walked
open_each-returns-clause-walked t c =
    let l = c.loop-part in
    parts_walked_end false wide_opening c.args.parts.now (namings_of c.args.naming.now) l.part-index (seen l.walked) c.loop-part-test.false _
    l.invariant.walked

-- the widened type of all else is known as it stands
pub open_widened-returns-in_default : goal.open_widened-returns-in_default
open_widened-returns-in_default t c =
    let i = c.args.indices.now in
    let w = seen c.args.walked.now in
    let d = c.in_default in
    let kept = wide_kept c.args.naming.now i d.not-Truth d.not-Bits d.not-Integer d.not-Vector d.not-Tuple in
    let value : got (wide_opening i false c.args.naming.now) w ≡ i = ap (λ f. got f w) kept ∙ got_give i w in
    let walked : run (wide_opening i false c.args.naming.now) w ≡ w = ap (λ f. run f w) kept ∙ run_give i w in
    record {
      value = subst (λ x. IfOk c.copy_indices.result (λ made. made ≡ x)) (sym value) c.copy_indices.ensures;
      walked = on_ok c.copy_indices.result _ (sym walked);
    }
