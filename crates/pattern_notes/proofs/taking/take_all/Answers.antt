use Rattle.std.proofs.Common.{◌≡◌, ◌+◌, [], List, map, drop, slice_get, sym, ap, ◌∙◌, Some, None}
use Rattle.std.specs.Option.{option_copied}
use Rattle.value_indices.specs.declared.indices.Indices.{Indices}
use Rattle.value_indices.specs.declared.indices.Naming.{Naming}
use Rattle.value_indices.specs.Steps.{Walk}
use Rattle.value_indices.specs.Walking.{got, run, seen}
use Rattle.value_indices.proofs.Walks.{run_give}
use Rattle.pattern_notes.specs.Patterns.{look, taken_out, all_taken, named_readings}
use Rattle.pattern_leaves.proofs.Walked.{pushed_got, pushed_run, ended_by}
use Rattle.pattern_notes.proofs.Looked.{taken_more, taken_short, taken_end}
use Rattle.pattern_notes.proofs.taking.take_all.Goals as goal

pub loop-index-preserved : goal.loop-index-preserved
loop-index-preserved c =
    let place = c.args.place in
    let ps = c.args.parts.now in
    let rs = c.args.readings.now in
    let k = c.loop-index.index in
    let p = c.index-parts-index.result in
    let r = c.in-Some.reading.now in
    let reading : slice_get rs k ≡ Some r = sym c.reading_at.ensures ∙ ap option_copied c.in-Some.is in
    let first = taken_out place (look p).naming r in
    let whole = all_taken place (named_readings (map look (drop k ps)) (drop k rs)) in
    let rest = all_taken place (named_readings (map look (drop (k + 1) ps)) (drop (k + 1) rs)) in
    let opens = taken_more place ps rs k p r c.loop-index-test.true c.index-parts-index.is reading in
    let v = seen c.loop-index.walking in
    let w = seen c.take_out.new.walking in
    let is : c.in_ok-take_out-in-Some.field-0 ≡ got first v =
    c.in_ok-take_out-in-Some.ensures.taken ∙ ap (λ (n : Naming). got (taken_out place n r) v) c.in_ok-naming-in-Some.ensures in
    let was : w ≡ run first v =
    c.in_ok-take_out-in-Some.ensures.walked ∙ ap (λ (n : Naming). run (taken_out place n r) v) c.in_ok-naming-in-Some.ensures in
    let grown = c.in_ok-push-in-Some.ensures.pushed in record {
      taken = pushed_got c.loop-index.taken c.push.new.self c.in_ok-take_out-in-Some.field-0 whole rest first v w grown is was opens
          ∙ c.loop-index.invariant.taken;
      walked = pushed_run whole rest first v w was opens ∙ c.loop-index.invariant.walked;
    }

pub returns-in-None-clause-taken : goal.returns-in-None-clause-taken
returns-in-None-clause-taken c =
    let k = c.loop-index.index in
    let v = seen c.loop-index.walking in
    let none : slice_get c.args.readings.now k ≡ None = sym c.reading_at.ensures ∙ ap option_copied c.in-None.is in
    ended_by c.loop-index.taken _ v _ (taken_short c.args.place c.args.parts.now c.args.readings.now k none) c.loop-index.invariant.taken

pub returns-in-None-clause-walked : goal.returns-in-None-clause-walked
returns-in-None-clause-walked c =
    let k = c.loop-index.index in
    let v = seen c.loop-index.walking in
    let none : slice_get c.args.readings.now k ≡ None = sym c.reading_at.ensures ∙ ap option_copied c.in-None.is in
    sym (run_give {A = List Indices} [] v)
    ∙ ap (λ (a : Walk (List Indices)). run a v) (sym (taken_short c.args.place c.args.parts.now c.args.readings.now k none))
    ∙ c.loop-index.invariant.walked

pub returns-clause-taken : goal.returns-clause-taken
returns-clause-taken c =
    let k = c.loop-index.index in
    let v = seen c.loop-index.walking in
    ended_by c.loop-index.taken _ v _ (taken_end c.args.place c.args.parts.now c.args.readings.now k c.loop-index-test.false) c.loop-index.invariant.taken

pub returns-clause-walked : goal.returns-clause-walked
returns-clause-walked c =
    let k = c.loop-index.index in
    let v = seen c.loop-index.walking in
    sym (run_give {A = List Indices} [] v)
    ∙ ap (λ (a : Walk (List Indices)). run a v) (sym (taken_end c.args.place c.args.parts.now c.args.readings.now k c.loop-index-test.false))
    ∙ c.loop-index.invariant.walked
