use Rattle.std.proofs.Common.{◌+◌, [], List, drop, sym, ap, ◌∙◌}
use Rattle.value_indices.specs.declared.indices.Indices.{Indices}
use Rattle.value_indices.specs.Steps.{Walk, each}
use Rattle.value_indices.specs.Walking.{run, seen}
use Rattle.value_indices.proofs.Walks.{run_give}
use Rattle.pattern_leaves.specs.Widths.{cut_width}
use Rattle.pattern_leaves.proofs.Walked.{pushed_got, pushed_run, ended_by, each_more, each_end}
use Rattle.pattern_leaves.proofs.widths.cut_widths.Goals as goal

pub loop-width-preserved : goal.loop-width-preserved
loop-width-preserved c =
    let f = cut_width c.args.place c.args.rest.now in
    let ws = c.args.widths.now in
    let k = c.loop-width.width-index in
    let x = c.width-item.result in
    let opens = each_more f ws k x c.loop-width-test.true c.width-item.is in
    let v = seen c.loop-width.walking in
    let w = seen c.cut_width.new.walking in record {
      made = pushed_got c.loop-width.parts c.push.new.self c.in_ok-cut_width.field-0 (each f (drop k ws)) (each f (drop (k + 1) ws)) (f x) v w
          c.in_ok-push.ensures.pushed c.in_ok-cut_width.ensures.made c.in_ok-cut_width.ensures.walked opens ∙ c.loop-width.invariant.made;
      walked = pushed_run (each f (drop k ws)) (each f (drop (k + 1) ws)) (f x) v w c.in_ok-cut_width.ensures.walked opens ∙ c.loop-width.invariant.walked;
    }

pub returns-clause-made : goal.returns-clause-made
returns-clause-made c =
    let v = seen c.loop-width.walking in
    ended_by c.loop-width.parts _ v _ (each_end (cut_width c.args.place c.args.rest.now) c.args.widths.now c.loop-width.width-index c.loop-width-test.false)
    c.loop-width.invariant.made

pub returns-clause-walked : goal.returns-clause-walked
returns-clause-walked c =
    let v = seen c.loop-width.walking in
    sym (run_give {A = List Indices} [] v)
    ∙ ap (λ (a : Walk (List Indices)). run a v)
    (sym (each_end (cut_width c.args.place c.args.rest.now) c.args.widths.now c.loop-width.width-index c.loop-width-test.false))
    ∙ c.loop-width.invariant.walked
